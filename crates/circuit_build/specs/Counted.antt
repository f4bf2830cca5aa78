-- How often the units stand that a graph asks for.
use Rattle.std.specs.List.{Contains}
use Rattle.std.specs.Prelude.{◌≡◌, ◌==◌, ℕ, Bool, true, false, slice_get, sum_by, count_by, Some}
use Rattle.ir.specs.declared.graph.Block.{Block}
use Rattle.ir.specs.declared.groups.Groups.{Groups}
use Rattle.ir.specs.declared.instr.Instr.{Instr}
use Rattle.ir.specs.declared.instr.Instr.TheVariants.{Const, One, Two, Select, Load, Store}
use Rattle.ir.specs.Graphs.{Graph}
use Rattle.net_types.specs.declared.net.Net.{Net}
use Rattle.net_types.specs.declared.net.Unit.{Unit as Kind}
use Rattle.net_types.specs.declared.net.Unit.TheVariants.{Lsq}
use Rattle.net_check.specs.Headers.{KeepsC8, is_read, is_queue}
use Rattle.circuit_build.specs.Asks.{IsAsked}
use Rattle.circuit_build.specs.Built.{built}
use Rattle.circuit_build.specs.Fronts.{ports_of, groups_from, depth_from}

abbrev pub is_load : ℕ → Instr → Bool
is_load a (Const w n) = false
is_load a (One op x) = false
is_load a (Two op x y) = false
is_load a (Select w c x y) = false
is_load a (Load b p) = b == a
is_load a (Store b p v) = false

-- the steps of all blocks that load from the array
abbrev pub graph_loads : ℕ → Graph → ℕ
graph_loads a g = sum_by (λ (b : Block). count_by (is_load a) b.steps) g.blocks

abbrev pub HeadersAreMet : Type 0
HeadersAreMet = (g : Graph) (gs : Groups) → IsAsked g gs → KeepsC8 (built g gs)

-- the queue of an array: a port for each place of its accesses, in order, a group of ports for each access, numbered on in
-- order, and as many entries as the greatest group has ports, and 16 at least
abbrev pub queue_for : Graph → Groups → ℕ → Kind
queue_for g gs a = Lsq a (depth_from a 16 gs.of) (ports_of a g.blocks gs.of) (groups_from a 0 gs.of) false

-- an array that is only read has a unit that reads it for each step that loads from it, and no queue; another has one queue,
-- which is that of its accesses, and no unit reads it
pub record ArraysServed (g : Graph) (gs : Groups) (net : Net) : Type 0 where
  pub reads : (a : ℕ) → slice_get gs.read_only a ≡ Some true → count_by (is_read a) net.units ≡ graph_loads a g
  pub no_queue : (a : ℕ) → slice_get gs.read_only a ≡ Some true → count_by (is_queue a) net.units ≡ 0
  pub queue : (a : ℕ) → slice_get gs.read_only a ≡ Some false → count_by (is_queue a) net.units ≡ 1
  pub unread : (a : ℕ) → slice_get gs.read_only a ≡ Some false → count_by (is_read a) net.units ≡ 0
  pub queue_is : (a : ℕ) → slice_get gs.read_only a ≡ Some false → Contains net.units (queue_for g gs a)

abbrev pub ArraysAreServed : Type 0
ArraysAreServed = (g : Graph) (gs : Groups) → IsAsked g gs → ArraysServed g gs (built g gs)
