-- The shape of the queues that are laid.
use Rattle.ir.specs.declared.groups.Groups.{Groups}
use Rattle.ir.specs.Graphs.{Graph}
use Rattle.net_check.specs.Shapes.{KeepsC7}
use Rattle.circuit_build.specs.Asks.{IsAsked}
use Rattle.circuit_build.specs.Built.{built}

abbrev pub UnitsAreShaped : Type 0
UnitsAreShaped = (g : Graph) (gs : Groups) → IsAsked g gs → KeepsC7 (built g gs)
