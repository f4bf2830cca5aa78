-- Where what is laid stands in the whole net.
use Rattle.std.specs.Prelude.{◌≡◌, ◌⊎◌, ℕ, ◌+◌, ◌^◌, ◌<◌, ◌≤◌, List, [], ◌∷◌, ◌++◌, length, slice_get, false, Option, Some, None}
use Rattle.std.specs.List.{Contains}
use Rattle.net_types.specs.declared.net.Chan.{Chan}
use Rattle.net_types.specs.declared.net.Net.{Net}
use Rattle.net_types.specs.declared.net.Place.{Place}
use Rattle.net_types.specs.declared.net.Unit.{Unit as Kind}
use Rattle.net_types.specs.Nets.{at}
use Rattle.net_types.specs.Tables.{Spot, outs}
use Rattle.circuit_build.specs.declared.draft.Draft.{Draft}
use Rattle.circuit_build.specs.declared.draft.Edge.{Edge}
use Rattle.circuit_build.specs.declared.draft.End.{End}
use Rattle.circuit_build.specs.declared.draft.Queue.{Queue}
use Rattle.circuit_build.specs.Steps.{queue_or}
use Rattle.circuit_build.proofs.Marks.{Wired}

-- the draft e has all units and channels of d, and then more
pub record Extends (d e : Draft) : Type 0 where
  pub more_units : List Kind
  pub more_chans : List Chan
  pub units : e.units ≡ d.units ++ more_units
  pub chans : e.chans ≡ d.chans ++ more_chans

-- all units and channels of the draft stand in the net, the units under their numbers
pub record Within (net : Net) (d : Draft) : Type 0 where
  pub unit : (u : ℕ) (k : Kind) → slice_get d.units u ≡ Some k → slice_get net.units u ≡ Some k
  pub wire : (c : Chan) → Contains d.chans c → Wired net c.from c.to
  pub less : length d.units ≤ length net.units
  pub few : length net.units < 2 ^ 32

-- the edge is number j at the head of unit h: its control token goes to input j of the merge, and each value to that input of a mux that has this number and 1
pub record EdgeAt (net : Net) (h j : ℕ) (e : Edge) : Type 0 where
  pub control : Wired net e.control (at h j)
  pub values : (i : ℕ) (x : End) → slice_get e.with i ≡ Some x → Wired net x.place (at (h + 2 + i) (j + 1))

-- ---- the output places of a unit

abbrev pub HasPlace : List Spot → ℕ → Type 0
HasPlace [] p = ⊥
HasPlace (s ∷ ss) p = (s.place ≡ p) ⊎ HasPlace ss p

-- each output place of a unit of the net is joined to some place
abbrev pub Leaves : Net → Type 0
Leaves net = (u p : ℕ) (k : Kind) → slice_get net.units u ≡ Some k → HasPlace (outs net false k) p → (r : Place) × Wired net (at u p) r

-- ---- the output places of queues

-- the place is the output of a group or of a port of this queue that has been used
abbrev pub UsedOf : Queue → Place → Type 0
UsedOf q p = ((p.place < q.group) × (p.place < q.groups)) ⊎ ((q.groups + 1 ≤ p.place) × (p.place < q.groups + 1 + q.port))

-- the place is of a unit from low on, or no output of a queue that is still to be used
abbrev pub Used : ℕ → List (Option Queue) → Place → Type 0
Used low qs p = (low ≤ p.unit) ⊎ ((x : ℕ) (q : Queue) → queue_or (slice_get qs x) ≡ Some q → p.unit ≡ q.unit → UsedOf q p)

abbrev pub AllUsed : ℕ → List (Option Queue) → List (Option Place) → Type 0
AllUsed low qs [] = Unit {0}
AllUsed low qs (None ∷ ps) = AllUsed low qs ps
AllUsed low qs (Some p ∷ ps) = Used low qs p × AllUsed low qs ps
