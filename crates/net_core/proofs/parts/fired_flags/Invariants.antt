use Rattle.std.proofs.Common.{◌≡◌, map, take}
use Rattle.net_core.specs.private.Restores.{fired_in}
use Rattle.net_core.proofs.parts.fired_flags.Given as goal

abbrev pub invariant-loop-cell : goal.invariant-loop-cell
invariant-loop-cell l = l.flags ≡ map fired_in (take l.cell-index l.cells)
