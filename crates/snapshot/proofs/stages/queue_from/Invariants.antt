use Rattle.std.proofs.Common.{◌≡◌, ◌≤◌, ◌<◌, ℕ, false, get_or}
use Rattle.net_types.specs.declared.net.Unit.TheVariants.{Sink}
use Rattle.net_check.specs.Ends.{is_lsq}
use Rattle.snapshot.proofs.stages.queue_from.Given as goal

abbrev pub invariant-loop-at : goal.invariant-loop-at
invariant-loop-at l = (j : ℕ) → l.from ≤ j → j < l.at → is_lsq (get_or l.units j (Sink 0)) ≡ false
