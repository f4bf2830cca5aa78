-- Runs of a graph from those of a graph that is made of it.
use Rattle.std.proofs.Common.{◌≡◌, ℕ, List, [], ◌∷◌, length, Option, refl, arith}
use Rattle.ir.specs.Visits.{Visit, Finishes, over_visits, strays_of}
use Rattle.ir.specs.Graphs.{Graph, passage, first_visit}
use Rattle.block_merge.specs.Shares.{RunsBack}

-- the run of the graph from the visit ends so, without strays
pub record EndsClean (g : Graph) (v : Visit) (r : Option ℕ) (arrays : List (List ℕ)) : Type 0 where
  pub rest : List Visit
  pub ends : Finishes (passage g) v rest r arrays
  pub clean : strays_of (passage g) (v ∷ rest) ≡ 0

-- where the run of h ends so, that of g does
abbrev pub EndsBack : Graph → Graph → Type 0
EndsBack g h = (scalars : List ℕ) (arrays : List (List ℕ)) (r : Option ℕ) (last : List (List ℕ)) → length scalars ≡ length g.scalars
    → EndsClean h (first_visit scalars arrays) r last → EndsClean g (first_visit scalars arrays) r last

no_cost : (vs : List Visit) → over_visits (λ v. 0) vs ≡ 0
no_cost [] = refl
no_cost (v ∷ vs) = let e = no_cost vs in omega (arith, e)

pub runs_back : (g h : Graph) → EndsBack g h → RunsBack g h
runs_back g h back scalars arrays r last more long x =
    let e = back scalars arrays r last long (record { rest = x.rest; ends = x.ends; clean = x.clean }) in
    let z = no_cost (first_visit scalars arrays ∷ e.rest) in (
      length e.rest,
      record { rest = e.rest; ends = e.ends; clean = e.clean; few = omega arith; cheap = omega (arith, z) },
    )
