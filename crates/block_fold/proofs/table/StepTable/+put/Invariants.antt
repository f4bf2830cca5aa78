use Rattle.std.proofs.Common.{◌+◌, ◌*◌}
use Rattle.block_fold.proofs.Loops.{IsPutting}
use Rattle.block_fold.proofs.table.StepTable.+put.Given as goal

abbrev pub decreases-put : goal.decreases-put
decreases-put l = 3 * l.depth

abbrev pub decreases-put_as : goal.decreases-put_as
decreases-put_as l = 3 * l.depth + 2

abbrev pub decreases-put_all : goal.decreases-put_all
decreases-put_all l = 3 * l.depth + 1

abbrev pub invariant-put_all-loop-step : goal.invariant-put_all-loop-step
invariant-put_all-loop-step l = IsPutting l.depth l.initial.self l.steps l.step-index l.self l.numbers l.last
