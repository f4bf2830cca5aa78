-- The worked graph over variables is well formed.
use Rattle.std.proofs.Common.{◌≡◌, ◌<◌, ℕ, List, [], ◌∷◌, refl, sym, subst, arith, inl, inr}
use Rattle.std.specs.List.{All, AllByRecursion}
use Rattle.std.proofs.lemmas.List.Elements.{All-from_recursion}
use Rattle.el_base.specs.declared.ty.Ty.TheVariants.{U32}
use Rattle.ir.specs.Shapes.{IsWidth, IsArray, shape_after}
use Rattle.ir.specs.Variables.{VarGraph, IsVarGraph, IsVarBlock, IsWrite, read_shape}
use Rattle.block_args.specs.Sample.{entry_block, head_block, body_block, end_block, sample_cfg}

width : IsWidth 32
width = inr (inr (inl refl))

module _ (name n a : List ℕ) where
  abbrev g : VarGraph
  g = sample_cfg name n a

  elements : IsArray g.arrays 0 32
  elements = (record { name = a; ty = U32; len = 2 }, refl, refl)

  below : (rs : List ℕ) → AllByRecursion (λ v. v < 3) rs → All (λ v. v < 3) rs
  below rs h = All-from_recursion (λ v. v < 3) rs h

  entry : IsVarBlock g entry_block
  entry =
      record {
        reads = below [] tt;
        steps = ((width, omega arith), tt);
        writes = All-from_recursion (IsWrite g (shape_after g.arrays (read_shape g entry_block) entry_block.steps)) entry_block.writes ((32, refl, refl), tt);
        jump = (omega arith, omega arith);
      }

  head : IsVarBlock g head_block
  head =
      record {
        reads = below (1 ∷ 0 ∷ []) (omega arith, (omega arith, tt));
        steps = ((refl, refl), tt);
        writes = All-from_recursion (IsWrite g (shape_after g.arrays (read_shape g head_block) head_block.steps)) [] tt;
        jump = (refl, (omega arith, omega arith), (omega arith, omega arith));
      }

  body : IsVarBlock g body_block
  body =
      record {
        reads = below (1 ∷ []) (omega arith, tt);
        steps = (refl, ((32, elements, refl), ((width, omega arith), ((refl, refl), ((32, elements, refl, refl), ((refl, refl), tt))))));
        writes = All-from_recursion (IsWrite g (shape_after g.arrays (read_shape g body_block) body_block.steps)) body_block.writes ((32, refl, refl), ((32, refl, refl), tt));
        jump = (omega arith, omega arith);
      }

  end : IsVarBlock g end_block
  end =
      record {
        reads = below (1 ∷ []) (omega arith, tt);
        steps = tt;
        writes = All-from_recursion (IsWrite g (shape_after g.arrays (read_shape g end_block) end_block.steps)) [] tt;
        jump = refl;
      }

  sample_is_graph : IsVarGraph g
  sample_is_graph =
      record {
        vars = All-from_recursion IsWidth (32 ∷ 32 ∷ 32 ∷ []) (width, (width, (width, tt)));
        scalars = refl;
        some = omega arith;
        blocks = All-from_recursion (IsVarBlock g) g.blocks (entry, (head, (body, (end, tt))));
      }

pub is_sample : (g : VarGraph) (name n a : List ℕ) → g ≡ sample_cfg name n a → IsVarGraph g
is_sample g name n a e = subst IsVarGraph (sym e) (sample_is_graph name n a)
