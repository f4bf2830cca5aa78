use Rattle.std.proofs.Common.{◌≤◌, ◌-◌}
use Rattle.block_args.specs.Indexes.{ListsBelow}
use Rattle.block_args.proofs.live.live_variables.Given as goal

abbrev pub invariant-loop-first : goal.invariant-loop-first
invariant-loop-first l = (l.first ≤ l.count) × ListsBelow l.cfg l.first l.table

abbrev pub decreases-loop-first : goal.decreases-loop-first
decreases-loop-first l = l.count - l.first
