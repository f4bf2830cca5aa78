use Rattle.std.proofs.Common.{◌≡◌, ◌++◌}
use Rattle.std.specs.Prelude.{drop}
use Rattle.net_check.specs.private.Times.{times_before}
use Rattle.net_check.proofs.retiming.times_of.Given as goal

abbrev pub invariant-loop-change : goal.invariant-loop-change
invariant-loop-change l = l.before ++ times_before l.chans (drop l.change-index l.changes) ≡ times_before l.chans l.changes
