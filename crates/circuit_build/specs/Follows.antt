-- A circuit follows the visits of its graph: to each list of visits there is a list of enabled firings, and where the graph returns the circuit
-- comes to rest with the graph's arrays and result.
use Rattle.std.specs.Prelude.{◌≡◌, ℕ, ◌+◌, ◌*◌, ◌≤◌, List, ◌∷◌, length, Option}
use Rattle.ir.specs.declared.groups.Groups.{Groups}
use Rattle.ir.specs.Graphs.{Graph, passage, first_visit, weight}
use Rattle.ir.specs.Visits.{Visit, AreVisits, Finishes, over_visits, strays_of}
use Rattle.net_types.specs.declared.firing.Firing.{Firing}
use Rattle.net_types.specs.declared.firing.Inputs.{Inputs}
use Rattle.net_types.specs.declared.net.Net.{Net}
use Rattle.net_types.specs.Inputs.{InputsFit}
use Rattle.net_core.specs.Fire.{State}
use Rattle.net_core.specs.Laws.{IsSpent}
use Rattle.net_core.specs.Runs.{Run, AtRest, Exited, NoStrays}
use Rattle.circuit_build.specs.Asks.{IsAsked}
use Rattle.circuit_build.specs.Built.{built}

-- a run of the net with at least one firing for each visit, and at most 12 for each unit of weight and 16 more for each scalar, each array and one besides
pub record Follows (net : Net) (g : Graph) (i : Inputs) (vs : List Visit) : Type 0 where
  pub firings : List Firing
  pub to : State
  pub run : Run net i firings to
  pub some : length vs ≤ length firings
  pub few : length firings ≤ 12 * over_visits (weight g) vs + 16 * (1 + length g.scalars + length g.arrays)

-- such a run that ends at rest, with no token and no entry left and all that starts by itself fired, exited with this result, with these arrays, and without strays
-- where the visits have none
pub record Completes (net : Net) (g : Graph) (i : Inputs) (vs : List Visit) (r : Option ℕ) (arrays : List (List ℕ)) : Type 0 where
  pub follows : Follows net g i vs
  pub rests : AtRest net follows.to
  pub spent : IsSpent net follows.to
  pub exited : Exited net r follows.to
  pub arrays_are : follows.to.arrays ≡ arrays
  pub clean : strays_of (passage g) vs ≡ 0 → NoStrays follows.to

-- whatever visits of the graph begin a run on these inputs, the net follows them
abbrev pub FollowsVisits : Graph → Net → Type 0
FollowsVisits g net = (i : Inputs) (vs : List Visit) → InputsFit net i → AreVisits (passage g) (first_visit i.scalars i.arrays) vs → Follows net g i vs

-- and where they return, it completes with them
abbrev pub CompletesVisits : Graph → Net → Type 0
CompletesVisits g net = (i : Inputs) (rest : List Visit) (r : Option ℕ) (arrays : List (List ℕ)) → InputsFit net i
    → Finishes (passage g) (first_visit i.scalars i.arrays) rest r arrays → Completes net g i (first_visit i.scalars i.arrays ∷ rest) r arrays

abbrev pub CircuitsFollow : Type 0
CircuitsFollow = (g : Graph) (gs : Groups) → IsAsked g gs → FollowsVisits g (built g gs)

abbrev pub CircuitsComplete : Type 0
CircuitsComplete = (g : Graph) (gs : Groups) → IsAsked g gs → CompletesVisits g (built g gs)

-- what building a graph that may be built gives of its visits
abbrev pub FollowsIfAsked : Graph → Groups → Net → Type 0
FollowsIfAsked g gs net = IsAsked g gs → FollowsVisits g net

abbrev pub CompletesIfAsked : Graph → Groups → Net → Type 0
CompletesIfAsked g gs net = IsAsked g gs → CompletesVisits g net
