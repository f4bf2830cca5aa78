-- Two graphs whose visits lead alike, where a visit fits and has no strays: their runs on inputs that fit are the same.
use Rattle.std.proofs.Common.{◌≡◌, ℕ, zero, suc, ◌<◌, List, [], ◌∷◌, map, length, Option, Some, sym, ◌∙◌, ap, subst, arith}
use Rattle.std.proofs.lemmas.Option.{get_or_from_slice_get, slice_get_within}
use Rattle.ir.specs.declared.graph.Block.{Block}
use Rattle.ir.specs.declared.graph.Jump.{Jump}
use Rattle.ir.specs.declared.graph.Jump.TheVariants.{Go, Two, Return}
use Rattle.ir.specs.declared.graph.To.{To}
use Rattle.ir.specs.Steps.{value_at, through, beginning}
use Rattle.ir.specs.Visits.{Visit, next_of, next_visit, Finishes, strays_of}
use Rattle.ir.specs.Shapes.{Shape}
use Rattle.ir.specs.Graphs.{Graph, IsGraph, IsJump, IsTarget, shape_of, handed, side, onward_of, no_block, block_at, passage, first_visit}
use Rattle.block_merge.proofs.Visiting.{is_block}
use Rattle.block_pass.specs.Fitting.{FitWidths, FitShape, FitArrays, FitHeader}
use Rattle.block_pass.specs.Shares.{VisitsOver, VisitsBack}
use Rattle.block_pass.specs.Blocks.{LeadsClean}
use Rattle.block_pass.specs.Laws.{FitsAfter, ValuesStayInWidths}
use Rattle.block_pass.proofs.Values.{fit_first, fit_handed}

-- ---- visits that fit

-- the block exists, and what it is given fits its arguments and the arrays
pub record FitsVisit (g : Graph) (v : Visit) : Type 0 where
  pub within : v.block < length g.blocks
  pub given : FitWidths (block_at g v.block).args v.given
  pub elements : FitArrays g.arrays v.arrays

module _ (stay : ValuesStayInWidths) (g : Graph) (fine : IsGraph g) where
  fits_target : (ws : Shape) (to : To) (vs : List ℕ) (xs : List (List ℕ)) (w : Visit) → FitShape ws vs → FitArrays g.arrays xs → IsTarget g.blocks ws to → next_of (handed vs to) xs ≡ Some w → FitsVisit g w
  fits_target ws to vs xs w fit all t e =
      let z : ◌≡◌ {A = Visit} (record { block = to.block; given = map (value_at vs) to.with; arrays = xs }) w = cc in
      let a : block_at g to.block ≡ t.block = get_or_from_slice_get g.blocks to.block t.block no_block t.exists in
      subst (FitsVisit g) z (record {
        within = slice_get_within g.blocks to.block t.block t.exists;
        given = subst (λ (b : Block). FitWidths b.args (map (value_at vs) to.with)) (sym a) (fit_handed ws vs to.with t.block.args fit t.handed);
        elements = all;
      })

  fits_jump : (ws : Shape) (j : Jump) (vs : List ℕ) (xs : List (List ℕ)) (w : Visit) → FitShape ws vs → FitArrays g.arrays xs → IsJump g ws j → next_of (onward_of j vs) xs ≡ Some w → FitsVisit g w
  fits_jump ws (Go to) vs xs w fit all t e = fits_target ws to vs xs w fit all t e
  fits_jump ws (Two c a b) vs xs w fit all t e = by (value_at vs c) e
    where
      by : (n : ℕ) → next_of (side n (handed vs a) (handed vs b)) xs ≡ Some w → FitsVisit g w
      by zero e = fits_target ws b vs xs w fit all t.2 e
      by (suc n) e = fits_target ws a vs xs w fit all t.1 e
  fits_jump ws (Return v) vs xs w fit all t e = absurd (cc)

  fits_after : (v : Visit) → FitsVisit g v → FitsAfter g.arrays (shape_of g (block_at g v.block)) (through (block_at g v.block).steps (beginning v.given v.arrays))
  fits_after v f =
      let b = block_at g v.block in
      stay g.arrays (map Some b.args) b.steps (beginning v.given v.arrays) (is_block g fine v.block f.within).steps (record { values = fit_first b.args v.given f.given; elements = f.elements })

  pub fits_next : (v w : Visit) → FitsVisit g v → next_visit (passage g) v ≡ Some w → FitsVisit g w
  fits_next v w f e =
      let b = block_at g v.block in
      let a = fits_after v f in
      fits_jump (shape_of g b) b.jump (passage g v).values (passage g v).arrays w a.values a.elements (is_block g fine v.block f.within).jump e

  pub fits_first : (scalars : List ℕ) (arrays : List (List ℕ)) → FitHeader g scalars arrays → FitsVisit g (first_visit scalars arrays)
  fits_first scalars arrays h =
      let a : block_at g 0 ≡ fine.entry = get_or_from_slice_get g.blocks 0 fine.entry no_block fine.first in
      record {
        within = slice_get_within g.blocks 0 fine.entry fine.first;
        given = subst (λ ws. FitWidths ws scalars) (sym (ap (λ (b : Block). b.args) a ∙ fine.scalars)) h.each_scalar;
        elements = h.each_array;
      }

-- ---- runs

-- both graphs' visits lead alike, where a visit of either has no strays
pub record LeadAlike (g h : Graph) : Type 0 where
  pub over : (v : Visit) → FitsVisit g v → (passage g v).strays ≡ 0 → LeadsClean (passage g v) (passage h v)
  pub back : (v : Visit) → FitsVisit g v → (passage h v).strays ≡ 0 → (passage g v).strays ≡ 0

-- a run that ends without strays
record EndsClean (g : Graph) (v : Visit) (rest : List Visit) (r : Option ℕ) (arrays : List (List ℕ)) : Type 0 where
  ends : Finishes (passage g) v rest r arrays
  clean : strays_of (passage g) (v ∷ rest) ≡ 0

module _ (stay : ValuesStayInWidths) (g h : Graph) (fine : IsGraph g) (alike : LeadAlike g h) where
  next_same : (v : Visit) → LeadsClean (passage g v) (passage h v) → next_visit (passage h) v ≡ next_visit (passage g) v
  next_same v a = ap (λ o. next_of o (passage h v).arrays) a.onward ∙ ap (next_of (passage g v).onward) a.arrays

  end_over : (v : Visit) (rest : List Visit) (r : Option ℕ) (arrays : List (List ℕ)) → FitsVisit g v → EndsClean g v rest r arrays → EndsClean h v rest r arrays
  end_over v [] r arrays fit e =
      let c = e.clean in
      let a = alike.over v fit (omega (arith, c)) in
      record { ends = record { result = a.onward ∙ e.ends.result; last_arrays = a.arrays ∙ e.ends.last_arrays }; clean = (let z = a.clean in omega (arith, z)) }
  end_over v (w ∷ rest) r arrays fit e =
      let c = e.clean in
      let a = alike.over v fit (omega (arith, c)) in
      let i = end_over w rest r arrays (fits_next stay g fine v w fit e.ends.0) (record { ends = e.ends.1; clean = omega (arith, c) }) in
      record { ends = (next_same v a ∙ e.ends.0, i.ends); clean = (let z = a.clean in let y = i.clean in omega (arith, z, y)) }

  end_back : (v : Visit) (rest : List Visit) (r : Option ℕ) (arrays : List (List ℕ)) → FitsVisit g v → EndsClean h v rest r arrays → EndsClean g v rest r arrays
  end_back v [] r arrays fit e =
      let c = e.clean in
      let z = alike.back v fit (omega (arith, c)) in
      let a = alike.over v fit z in
      record { ends = record { result = sym a.onward ∙ e.ends.result; last_arrays = sym a.arrays ∙ e.ends.last_arrays }; clean = omega (arith, z) }
  end_back v (w ∷ rest) r arrays fit e =
      let c = e.clean in
      let z = alike.back v fit (omega (arith, c)) in
      let a = alike.over v fit z in
      let n = sym (next_same v a) ∙ e.ends.0 in
      let i = end_back w rest r arrays (fits_next stay g fine v w fit n) (record { ends = e.ends.1; clean = omega (arith, c) }) in
      record { ends = (n, i.ends); clean = (let y = i.clean in omega (arith, z, y)) }

  pub visits_over : VisitsOver g h
  visits_over scalars arrays r last more fit e =
      let o = end_over (first_visit scalars arrays) e.rest r last (fits_first stay g fine scalars arrays fit) (record { ends = e.ends; clean = e.clean }) in
      record { rest = e.rest; ends = o.ends; clean = o.clean; few = e.few; cheap = e.cheap }

  pub visits_back : VisitsBack g h
  visits_back scalars arrays r last more fit e =
      let o = end_back (first_visit scalars arrays) e.rest r last (fits_first stay g fine scalars arrays fit) (record { ends = e.ends; clean = e.clean }) in
      (more, record { rest = e.rest; ends = o.ends; clean = o.clean; few = e.few; cheap = e.cheap })
