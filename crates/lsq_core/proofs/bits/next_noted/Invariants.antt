use Rattle.std.proofs.Common.{◌≤◌, ◌-◌, min}
use Rattle.lsq_core.proofs.BitLemmas.{NoneFrom}
use Rattle.lsq_core.proofs.bits.next_noted.Given as goal

abbrev pub invariant-loop-at : goal.invariant-loop-at
invariant-loop-at l = record {
  lower : l.from ≤ l.at;
  none : NoneFrom l.words l.from (min l.at l.to);
}

abbrev pub decreases-loop-at : goal.decreases-loop-at
decreases-loop-at l = l.to - l.at
