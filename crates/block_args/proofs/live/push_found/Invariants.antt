use Rattle.std.proofs.Common.{◌≡◌, ◌+◌, drop}
use Rattle.block_args.specs.Indexes.{with_found}
use Rattle.block_args.proofs.live.push_found.Given as goal

abbrev pub invariant-loop-marks : goal.invariant-loop-marks
invariant-loop-marks l =
    (l.variable ≡ l.first + l.marks-index) × (with_found (drop l.marks-index l.found) l.variable l.block l.list ≡ with_found l.found l.first l.block l.fn.list)
