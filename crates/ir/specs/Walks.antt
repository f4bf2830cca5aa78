-- What a walk along the visits of a graph gives.
use Rattle.std.specs.Prelude.{◌≡◌, ℕ, ◌≤◌, List, [], ◌∷◌, ◌++◌, length, Option}
use Rattle.ir.specs.declared.walk.Walk.{Walk}
use Rattle.ir.specs.declared.walk.Ending.{Ending}
use Rattle.ir.specs.declared.walk.Ending.TheVariants.{Returned, Unfinished}
use Rattle.ir.specs.Visits.{Visit, Passing, AreVisits, Finishes, over_visits, strays_of}
use Rattle.ir.specs.Graphs.{Graph, passage, weight}

-- the run from the first visit on returned at its last visit
pub record ReturnsAfter (f : Passing) (first : Visit) (visits : List Visit) (r : Option ℕ) (arrays : List (List ℕ)) : Type 0 where
  pub rest : List Visit
  pub all : visits ≡ first ∷ rest
  pub finishes : Finishes f first rest r arrays

-- there were as many visits as may be, and a next one, which begins with these arrays
pub record GoesOn (f : Passing) (first : Visit) (visits : List Visit) (limit : ℕ) (arrays : List (List ℕ)) : Type 0 where
  pub all : length visits ≡ limit
  pub onto : Visit
  pub run : AreVisits f first (visits ++ onto ∷ [])
  pub begins : onto.arrays ≡ arrays

abbrev pub EndsAs : Passing → Visit → List Visit → ℕ → List (List ℕ) → Ending → Type 0
EndsAs f first visits limit arrays (Returned r) = ReturnsAfter f first visits r arrays
EndsAs f first visits limit arrays Unfinished = GoesOn f first visits limit arrays

-- the first visits of the run, at most limit many, with their number, their weights and their strays, and how they end
pub record IsWalk (g : Graph) (first : Visit) (limit : ℕ) (w : Walk) : Type 0 where
  pub visits : List Visit
  pub run : AreVisits (passage g) first visits
  pub many : w.visits ≡ length visits
  pub few : length visits ≤ limit
  pub weight_is : w.weight ≡ over_visits (weight g) visits
  pub strays_are : w.strays ≡ strays_of (passage g) visits
  pub ends : EndsAs (passage g) first visits limit w.arrays w.ending
