use Rattle.std.proofs.Common.{◌≡◌, map, take}
use Rattle.net_core.specs.private.Restores.{queue_part}
use Rattle.net_core.proofs.parts.queue_parts.Given as goal

abbrev pub invariant-loop-cell : goal.invariant-loop-cell
invariant-loop-cell l = l.parts ≡ map queue_part (take l.cell-index l.cells)
