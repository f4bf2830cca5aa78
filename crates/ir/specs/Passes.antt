-- Words that the contracts of private functions of the walk cite, and no other.
use Rattle.std.specs.Prelude.{◌≡◌, ◌<◌, ◌≤◌, ◌*◌, ◌^◌, ℕ, List, [], ◌∷◌, ◌++◌, length}
use Rattle.ir.specs.declared.instr.Instr.{Instr}
use Rattle.ir.specs.declared.graph.Block.{Block}
use Rattle.ir.specs.declared.walk.Passed.{Passed}
use Rattle.ir.specs.declared.walk.Way.{Way}
use Rattle.ir.specs.declared.walk.Way.TheVariants.{Onto, Leaves}
use Rattle.ir.specs.Steps.{Work, through, beginning}
use Rattle.ir.specs.Visits.{Visit, Onward, onto, leaves, AreVisits, over_visits, strays_of}
use Rattle.ir.specs.Graphs.{Graph, onward_of, block_weight, passage, weight}

abbrev pub onward_by : Way → List ℕ → Onward
onward_by (Onto b) handed = onto b handed
onward_by (Leaves r) handed = leaves r

-- what the steps made of the work before them
pub record IsPerformed (steps : List Instr) (w : Work) (values : List ℕ) (arrays : List (List ℕ)) (strays : ℕ) : Type 0 where
  pub all : through steps w ≡ record { values = values; arrays = arrays; strays = strays }

-- what a visit of the block makes
pub record IsPassed (b : Block) (given : List ℕ) (arrays : List (List ℕ)) (p : Passed) : Type 0 where
  pub arrays_are : p.arrays ≡ (through b.steps (beginning given arrays)).arrays
  pub strays_are : p.strays ≡ (through b.steps (beginning given arrays)).strays
  pub weight_is : p.weight ≡ block_weight b
  pub few : p.weight < 2 ^ 67
  pub rare : p.strays < 2 ^ 64
  pub onward : onward_by p.way p.handed ≡ onward_of b.jump (through b.steps (beginning given arrays)).values

-- a walk is at its visit v after n visits
pub record IsAt (g : Graph) (first : Visit) (n : ℕ) (v : Visit) (heavy strays : ℕ) : Type 0 where
  pub before : List Visit
  pub many : length before ≡ n
  pub run : AreVisits (passage g) first (before ++ v ∷ [])
  pub weight_is : heavy ≡ over_visits (weight g) before
  pub strays_are : strays ≡ strays_of (passage g) before
  pub light : heavy ≤ n * 2 ^ 67
  pub few : strays ≤ n * 2 ^ 64
