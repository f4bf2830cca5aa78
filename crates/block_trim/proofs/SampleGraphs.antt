-- The worked graph is well formed.
use Rattle.std.proofs.Common.{◌≡◌, ◌<◌, ℕ, List, [], ◌∷◌, length, refl, sym, subst, arith, inl, inr}
use Rattle.std.proofs.lemmas.List.Elements.{All-from_recursion}
use Rattle.ir.specs.Shapes.{IsWidth, shape_after}
use Rattle.ir.specs.Variables.{VarGraph, IsVarGraph, IsVarBlock, IsWrite, read_shape}
use Rattle.block_trim.specs.Sample.{first_block, last_block, sample_of}

module _ (name : List ℕ) where
  abbrev g : VarGraph
  g = sample_of name (first_block ∷ last_block ∷ [])

  width : IsWidth 32
  width = inr (inr (inl refl))

  first : IsVarBlock g first_block
  first = record {
    reads = All-from_recursion (λ v. v < length g.vars) first_block.reads (omega arith, (omega arith, (omega arith, tt)));
    steps = ((refl, refl), tt);
    writes = All-from_recursion (IsWrite g (shape_after g.arrays (read_shape g first_block) first_block.steps)) first_block.writes
        ((32, refl, refl), ((32, refl, refl), ((32, refl, refl), ((32, refl, refl), tt))));
    jump = (refl, (omega arith, omega arith), (omega arith, omega arith));
  }

  last : IsVarBlock g last_block
  last = record {
    reads = All-from_recursion (λ v. v < length g.vars) last_block.reads (omega arith, (omega arith, (omega arith, tt)));
    steps = tt;
    writes = All-from_recursion (IsWrite g (shape_after g.arrays (read_shape g last_block) last_block.steps)) last_block.writes ((32, refl, refl), ((32, refl, refl), tt));
    jump = refl;
  }

  sample_is_graph : IsVarGraph g
  sample_is_graph = record {
    vars = All-from_recursion IsWidth g.vars (width, (width, (width, tt)));
    scalars = refl;
    some = omega arith;
    blocks = All-from_recursion (IsVarBlock g) g.blocks (first, (last, tt));
  }

pub is_sample : (g : VarGraph) (name : List ℕ) → g ≡ sample_of name (first_block ∷ last_block ∷ []) → IsVarGraph g
is_sample g name e = subst IsVarGraph (sym e) (sample_is_graph name)
