use Rattle.std.proofs.Common.{take}
use Rattle.net_core.specs.private.Openings.{AreFresh}
use Rattle.net_core.proofs.opening.fresh_cells.Given as goal

abbrev pub invariant-loop-unit : goal.invariant-loop-unit
invariant-loop-unit l = AreFresh l.arrays (take l.unit-index l.units) l.cells.items
