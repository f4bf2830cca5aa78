-- How great a net is.
use Rattle.std.specs.Prelude.{◌+◌, ◌*◌, ◌^◌, ◌<◌, ◌≤◌, length}
use Rattle.ir.specs.declared.groups.Groups.{Groups}
use Rattle.ir.specs.Graphs.{Graph, size}
use Rattle.net_types.specs.declared.net.Net.{Net}
use Rattle.circuit_build.specs.Asks.{IsAsked}
use Rattle.circuit_build.specs.Built.{built}

-- at most 8 channels for each unit of the graph's size, each scalar and each array, and 64 more; fewer than 2^32 units
pub record IsSmallNet (g : Graph) (net : Net) : Type 0 where
  pub units : length net.units < 2 ^ 32
  pub chans : length net.chans ≤ 8 * size g + 64 + 8 * (length g.scalars + length g.arrays)

abbrev pub NetsAreSmall : Type 0
NetsAreSmall = (g : Graph) (gs : Groups) → IsAsked g gs → IsSmallNet g (built g gs)
