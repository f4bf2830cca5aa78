-- Runs of a graph as lists of visits, whatever the graph hands from block to block: arguments, or variables.
use Rattle.std.specs.Prelude.{◌≡◌, ℕ, ◌+◌, List, [], ◌∷◌, Option, Some, None}

-- a visit of a block: what it is given, and the arrays when it begins
pub record Visit : Type 0 where
  pub block : ℕ
  pub given : List ℕ
  pub arrays : List (List ℕ)

-- where a visit leads: to a block with what it is given, or out of the graph with the result
pub data Onward : Type 0 where
  onto : ℕ → List ℕ → Onward
  leaves : Option ℕ → Onward

-- what a visit makes: the values of its block, the arrays and the strays then, and where it leads
pub record Passage : Type 0 where
  pub values : List ℕ
  pub arrays : List (List ℕ)
  pub strays : ℕ
  pub onward : Onward

-- what each visit of a graph makes
abbrev pub Passing : Type 0
Passing = Visit → Passage

-- the visit after one that does not return
abbrev pub next_of : Onward → List (List ℕ) → Option Visit
next_of (onto b vs) arrays = Some (record { block = b; given = vs; arrays = arrays })
next_of (leaves r) arrays = None

abbrev pub next_visit : Passing → Visit → Option Visit
next_visit f v = next_of (f v).onward (f v).arrays

-- each visit is the next of the one before: every visit that does not return has one
abbrev pub AreNext : Passing → Visit → List Visit → Type 0
AreNext f v [] = Unit {0}
AreNext f v (w ∷ ws) = (next_visit f v ≡ Some w) × AreNext f w ws

-- the visits of a run from its first visit on
abbrev pub AreVisits : Passing → Visit → List Visit → Type 0
AreVisits f first [] = Unit {0}
AreVisits f first (v ∷ vs) = (v ≡ first) × AreNext f v vs

-- a run ends: its last visit returns r, with the arrays then
pub record Returns (f : Passing) (v : Visit) (r : Option ℕ) (arrays : List (List ℕ)) : Type 0 where
  pub result : (f v).onward ≡ leaves r
  pub last_arrays : (f v).arrays ≡ arrays

abbrev pub Finishes : Passing → Visit → List Visit → Option ℕ → List (List ℕ) → Type 0
Finishes f v [] r arrays = Returns f v r arrays
Finishes f v (w ∷ ws) r arrays = (next_visit f v ≡ Some w) × Finishes f w ws r arrays

-- a number of each visit, added up
abbrev pub over_visits : (Visit → ℕ) → List Visit → ℕ
over_visits n [] = 0
over_visits n (v ∷ vs) = n v + over_visits n vs

abbrev pub strays_of : Passing → List Visit → ℕ
strays_of f vs = over_visits (λ v. (f v).strays) vs
