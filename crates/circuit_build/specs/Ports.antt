-- The rules that channels keep with the places of units, in every net that is built.
use Rattle.std.specs.Prelude.{ℕ, ◌^◌, ◌<◌, ◌≤◌, List, length}
use Rattle.ir.specs.declared.groups.Groups.{Groups}
use Rattle.ir.specs.Accesses.{GroupsShare}
use Rattle.ir.specs.Graphs.{Graph, IsGraph, size}
use Rattle.ir.specs.Sample.{sample_graph, sample_groups}
use Rattle.net_types.specs.declared.net.Net.{Net}
use Rattle.net_types.specs.Rules.{KeepsC1, KeepsC2}
use Rattle.net_check.specs.Controls.{KeepsC5}
use Rattle.circuit_build.specs.Built.{built}

-- each place has one channel, of its width, and control where the place is
pub record PortsAgree (net : Net) : Type 0 where
  pub c1 : KeepsC1 net
  pub c2 : KeepsC2 net
  pub c5 : KeepsC5 net

-- of a graph that is well formed, with its accesses, where a net's numbers have room: its size is at most 8,000,000, and
-- its arrays and the units of its net are fewer than 2 ^ 32
pub record HasRoom (g : Graph) (gs : Groups) : Type 0 where
  pub graph : IsGraph g
  pub groups : GroupsShare g gs
  pub size : size g ≤ 8000000
  pub arrays : length g.arrays < 2 ^ 32
  pub units : length (built g gs).units < 2 ^ 32

abbrev pub PortsOfNetsAgree : Type 0
PortsOfNetsAgree = (g : Graph) (gs : Groups) → HasRoom g gs → PortsAgree (built g gs)

-- the worked graph has room
abbrev pub SampleHasRoom : Type 0
SampleHasRoom = (name n a : List ℕ) → HasRoom (sample_graph name n a) sample_groups
