use Rattle.std.proofs.Common.{◌≡◌, map, ◌++◌, take, drop}
use Rattle.queue_marks.specs.Marked.{with_mark}
use Rattle.queue_marks.proofs.marking.mark_units.Given as goal

-- the units so far have the mark, and the others are as they were
abbrev pub invariant-loop-unit : goal.invariant-loop-unit
invariant-loop-unit l = l.units ≡ map with_mark (take l.unit-index l.fn.units) ++ drop l.unit-index l.fn.units
