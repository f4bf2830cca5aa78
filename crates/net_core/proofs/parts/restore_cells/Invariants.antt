use Rattle.net_core.specs.private.Restores.{IsRestoring}
use Rattle.net_core.proofs.parts.restore_cells.Given as goal

abbrev pub invariant-loop-at : goal.invariant-loop-at
invariant-loop-at l = IsRestoring l.parts l.units l.initial.cells.items l.at l.cells.items
