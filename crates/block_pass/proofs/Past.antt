-- Two graphs whose visits lead alike, or past one further visit: their runs on inputs that fit are the same but for the visits left out.
use Rattle.std.proofs.Common.{◌≡◌, ℕ, ◌≤◌, List, [], ◌∷◌, map, length, ◌∙◌, arith}
use Rattle.std.proofs.lemmas.List.{length-map}
use Rattle.el_base.specs.Widths.{ty_width}
use Rattle.el_base.specs.declared.ty.Scalar.{Scalar}
use Rattle.ir.specs.Visits.{Visit}
use Rattle.ir.specs.Graphs.{Graph, IsGraph, passage, first_visit}
use Rattle.block_merge.proofs.Visiting.{Fits, fits_next, first_fits}
use Rattle.block_pass.specs.Fitting.{FitHeader}
use Rattle.block_pass.specs.Shares.{VisitsOver, VisitsBack}
use Rattle.block_pass.proofs.Values.{fit_long}
use Rattle.block_pass.proofs.Passing.{no_cost}
use Rattle.block_pass.proofs.Runs.{AlikeOrPast, shorter, longer}

module _ (g h : Graph) (fine : IsGraph g) (each : (v : Visit) → Fits g fine v → AlikeOrPast (passage g) (passage h) v) where
  starts : (scalars : List ℕ) (arrays : List (List ℕ)) → FitHeader g scalars arrays → Fits g fine (first_visit scalars arrays)
  starts scalars arrays fit =
      first_fits g fine scalars arrays (fit_long (map (λ (s : Scalar). ty_width s.ty) g.scalars) scalars fit.each_scalar ∙ length-map g.scalars (λ s. ty_width s.ty))

  pub past_over : VisitsOver g h
  past_over scalars arrays r last more fit x =
      let v = first_visit scalars arrays in
      let s = shorter (passage g) (passage h) (Fits g fine) (fits_next g fine) each x.rest v r last (starts scalars arrays fit) x.ends in
      record {
        rest = s.again;
        ends = s.ends;
        clean = s.strays ∙ x.clean;
        few = (let p = s.few in let q = x.few in omega (arith, p, q));
        cheap = (let z = no_cost (v ∷ s.again) in omega (arith, z));
      }

  pub past_back : VisitsBack g h
  past_back scalars arrays r last more fit x =
      let v = first_visit scalars arrays in
      let s = longer (passage g) (passage h) (Fits g fine) (fits_next g fine) each x.rest v r last (starts scalars arrays fit) x.ends in (
        length s.rest,
        record {
          rest = s.rest;
          ends = s.ends;
          clean = s.strays ∙ x.clean;
          few = omega arith;
          cheap = (let z = no_cost (v ∷ s.rest) in omega (arith, z));
        },
      )
