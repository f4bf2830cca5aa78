-- What holds of every net that is built.
use Rattle.std.specs.Prelude.{◌≡◌, ℕ, ◌^◌, ◌<◌, ◌≤◌, length, count_by, All, None}
use Rattle.ir.specs.declared.groups.Groups.{Groups}
use Rattle.ir.specs.Graphs.{Graph, IsGraph}
use Rattle.ir.specs.Headers.{graph_header}
use Rattle.net_types.specs.declared.net.Chan.{Chan}
use Rattle.net_types.specs.declared.net.Net.{Net}
use Rattle.net_types.specs.declared.net.Unit.{Unit as Kind}
use Rattle.net_types.specs.Nets.{owns}
use Rattle.net_check.specs.Shapes.{HasShape}
use Rattle.net_check.specs.Headers.{is_entry, is_exit, is_param, is_queue}
use Rattle.net_types.specs.Headers.{net_header}
use Rattle.circuit_build.specs.Asks.{IsSmall}
use Rattle.circuit_build.specs.Built.{built}

-- each channel has one slot, and delay 1
abbrev pub OneSlot : Net → Type 0
OneSlot net = All (λ (c : Chan). (c.slots ≡ 1) × (c.delay ≡ 1)) net.chans

abbrev pub ChannelsHaveOneSlot : Type 0
ChannelsHaveOneSlot = (g : Graph) (gs : Groups) → OneSlot (built g gs)

abbrev pub HeadersAreKept : Type 0
HeadersAreKept = (g : Graph) (gs : Groups) → net_header (built g gs) ≡ graph_header g

-- what the rule of shapes asks of a unit that is no queue: forks, muxes and merges have 1 to 65,536 outputs or inputs
abbrev pub HasShapeUnlessQueue : Kind → Type 0
HasShapeUnlessQueue k = owns k ≡ None → HasShape k

abbrev pub UnitsHaveShape : Type 0
UnitsHaveShape = (g : Graph) (gs : Groups) → IsGraph g → IsSmall g → All HasShapeUnlessQueue (built g gs).units

-- one entry, one exit, one unit for each scalar, and at most one queue for an array: a part of the rule of headers
pub record StandOnce (net : Net) : Type 0 where
  pub one_entry : count_by is_entry net.units ≡ 1
  pub one_exit : count_by is_exit net.units ≡ 1
  pub one_param : (j : ℕ) → j < length net.scalars → count_by (is_param j) net.units ≡ 1
  pub one_queue : (a : ℕ) → count_by (is_queue a) net.units ≤ 1

abbrev pub UnitsStandOnce : Type 0
UnitsStandOnce = (g : Graph) (gs : Groups) → length g.scalars < 2 ^ 32 → length g.arrays < 2 ^ 32 → StandOnce (built g gs)
