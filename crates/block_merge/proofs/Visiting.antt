-- Visits that fit the blocks of a well formed graph.
use Rattle.std.proofs.Common.{◌≡◌, ℕ, zero, suc, ◌<◌, List, [], ◌∷◌, map, length, Some, sym, ◌∙◌, ap, subst}
use Rattle.std.specs.Prelude.{slice_get, All}
use Rattle.std.proofs.lemmas.Option.{get_or_from_slice_get, slice_get-get_or, slice_get_within}
use Rattle.std.proofs.lemmas.List.{length-map}
use Rattle.std.proofs.lemmas.List.Elements.{All-head, All-tail}
use Rattle.el_base.specs.Widths.{ty_width}
use Rattle.ir.specs.declared.graph.Block.{Block}
use Rattle.ir.specs.declared.graph.Jump.{Jump}
use Rattle.ir.specs.declared.graph.Jump.TheVariants.{Go, Two, Return}
use Rattle.ir.specs.declared.graph.To.{To}
use Rattle.ir.specs.Steps.{value_at, through, beginning}
use Rattle.ir.specs.Visits.{Visit, Passage, next_of, next_visit}
use Rattle.ir.specs.Shapes.{Shape}
use Rattle.ir.specs.Graphs.{Graph, IsGraph, IsBlock, IsJump, IsTarget, shape_of, handed, side, onward_of, no_block, block_at, passage, first_visit}
use Rattle.block_merge.proofs.JoinedValues.{handed_long}

pub all_at : {X : Type 0} (P : X → Type 0) (xs : List X) (i : ℕ) (x : X) → All P xs → slice_get xs i ≡ Some x → P x
all_at P [] i x h e = absurd (cc)
all_at P (y ∷ xs) zero x h e = let z : y ≡ x = cc in subst P z (All-head P y xs h)
all_at P (y ∷ xs) (suc i) x h e = all_at P xs i x (All-tail P y xs h) e

module _ (g : Graph) (fine : IsGraph g) where
  pub is_block : (n : ℕ) → n < length g.blocks → IsBlock g (block_at g n)
  is_block n lt = all_at (IsBlock g) g.blocks n (block_at g n) fine.blocks (slice_get-get_or g.blocks n no_block lt)

  -- the block exists, and is given as many values as it has arguments
  pub record Fits (v : Visit) : Type 0 where
    pub within : v.block < length g.blocks
    pub long : length v.given ≡ length (block_at g v.block).args

  fits_target : (ws : Shape) (to : To) (vs : List ℕ) (xs : List (List ℕ)) (w : Visit) → IsTarget g.blocks ws to → next_of (handed vs to) xs ≡ Some w → Fits w
  fits_target ws to vs xs w t e =
      let z : ◌≡◌ {A = Visit} (record { block = to.block; given = map (value_at vs) to.with; arrays = xs }) w = cc in
      let a : block_at g to.block ≡ t.block = get_or_from_slice_get g.blocks to.block t.block no_block t.exists in
      let l : length to.with ≡ length (block_at g to.block).args = handed_long ws to.with t.block.args t.handed ∙ ap (λ (x : Block). length x.args) (sym a) in
      subst Fits z (record { within = slice_get_within g.blocks to.block t.block t.exists; long = length-map to.with (value_at vs) ∙ l })

  fits_jump : (ws : Shape) (j : Jump) (vs : List ℕ) (xs : List (List ℕ)) (w : Visit) → IsJump g ws j → next_of (onward_of j vs) xs ≡ Some w → Fits w
  fits_jump ws (Go to) vs xs w t e = fits_target ws to vs xs w t e
  fits_jump ws (Two c a b) vs xs w t e = by (value_at vs c) e
    where
      by : (n : ℕ) → next_of (side n (handed vs a) (handed vs b)) xs ≡ Some w → Fits w
      by zero e = fits_target ws b vs xs w t.2 e
      by (suc n) e = fits_target ws a vs xs w t.1 e
  fits_jump ws (Return v) vs xs w t e = absurd (cc)

  pub fits_next : (v w : Visit) → Fits v → next_visit (passage g) v ≡ Some w → Fits w
  fits_next v w f e = fits_jump (shape_of g (block_at g v.block)) (block_at g v.block).jump (passage g v).values (passage g v).arrays w (is_block v.block f.within).jump e

  pub first_fits : (scalars : List ℕ) (arrays : List (List ℕ)) → length scalars ≡ length g.scalars → Fits (first_visit scalars arrays)
  first_fits scalars arrays l =
      let a : block_at g 0 ≡ fine.entry = get_or_from_slice_get g.blocks 0 fine.entry no_block fine.first in
      let e : length (block_at g 0).args ≡ length g.scalars = ap (λ (x : Block). length x.args) a ∙ (ap length fine.scalars ∙ length-map g.scalars (λ s. ty_width s.ty)) in
      record { within = slice_get_within g.blocks 0 fine.entry fine.first; long = l ∙ sym e }

-- what a visit of a block makes
abbrev pub by_block : Block → List ℕ → List (List ℕ) → Passage
by_block x us xs = let w = through x.steps (beginning us xs) in record { values = w.values; arrays = w.arrays; strays = w.strays; onward = onward_of x.jump w.values }
