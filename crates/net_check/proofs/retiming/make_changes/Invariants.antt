use Rattle.std.proofs.Common.{◌≡◌}
use Rattle.std.specs.Prelude.{take}
use Rattle.net_check.specs.Retimed.{changed_from}
use Rattle.net_check.proofs.retiming.make_changes.Given as goal

abbrev pub invariant-loop-change : goal.invariant-loop-change
invariant-loop-change l = l.chans ≡ changed_from (take l.change-index l.changes) 0 l.initial.chans
