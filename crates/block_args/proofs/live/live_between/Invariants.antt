use Rattle.std.proofs.Common.{◌≡◌, ◌+◌, length}
use Rattle.block_args.specs.Indexes.{AreLiveFrom}
use Rattle.block_args.proofs.live.live_between.Given as goal

abbrev pub invariant-loop-variable : goal.invariant-loop-variable
invariant-loop-variable l = AreLiveFrom l.cfg l.first l.found.items × (l.first + length l.found.items ≡ l.variable)
