-- The worked graph is well formed.
use Rattle.std.proofs.Common.{ℕ, List, [], ◌∷◌, refl, arith, inl, inr}
use Rattle.std.specs.Prelude.{All}
use Rattle.std.proofs.lemmas.List.Elements.{All-cons, All-nil}
use Rattle.el_base.specs.declared.ty.Ty.TheVariants.{U32}
use Rattle.ir.specs.Shapes.{IsWidth, IsArray}
use Rattle.ir.specs.Graphs.{Graph, IsTarget, IsBlock, IsGraph, shape_of}
use Rattle.ir.specs.Sample.{entry_block, head_block, body_block, end_block, sample_graph}

width : IsWidth 32
width = inr (inr (inl refl))

one_width : All IsWidth (32 ∷ [])
one_width = All-cons IsWidth 32 [] width (All-nil IsWidth)

two_widths : All IsWidth (32 ∷ 32 ∷ [])
two_widths = All-cons IsWidth 32 (32 ∷ []) width one_width

module _ (name n a : List ℕ) where
  abbrev g : Graph
  g = sample_graph name n a

  elements : IsArray g.arrays 0 32
  elements = (record { name = a; ty = U32; len = 2 }, refl, refl)

  entry : IsBlock g entry_block
  entry =
      record {
        args = one_width;
        steps = ((width, omega arith), tt);
        jump = record { block = head_block; exists = refl; no_entry = omega arith; handed = (refl, (refl, tt)) };
      }

  head : IsBlock g head_block
  head =
      let body : IsTarget g.blocks (shape_of g head_block) (record { block = 2; with = 0 ∷ 1 ∷ [] }) =
      record { block = body_block; exists = refl; no_entry = omega arith; handed = (refl, (refl, tt)) } in
      let end : IsTarget g.blocks (shape_of g head_block) (record { block = 3; with = 1 ∷ [] }) =
      record { block = end_block; exists = refl; no_entry = omega arith; handed = (refl, tt) } in
      record { args = two_widths; steps = ((refl, refl), tt); jump = (refl, body, end) }

  body : IsBlock g body_block
  body =
      record {
        args = two_widths;
        steps = (refl, ((32, elements, refl), ((width, omega arith), ((refl, refl), ((32, elements, refl, refl), ((refl, refl), tt))))));
        jump = record { block = head_block; exists = refl; no_entry = omega arith; handed = (refl, (refl, tt)) };
      }

  end : IsBlock g end_block
  end = record { args = one_width; steps = tt; jump = refl }

  pub sample_is_graph : IsGraph g
  sample_is_graph =
      let P = IsBlock g in
      record {
        blocks = All-cons P entry_block (head_block ∷ body_block ∷ end_block ∷ []) entry
            (All-cons P head_block (body_block ∷ end_block ∷ []) head (All-cons P body_block (end_block ∷ []) body (All-cons P end_block [] end (All-nil P))));
        entry = entry_block;
        first = refl;
        scalars = refl;
      }
