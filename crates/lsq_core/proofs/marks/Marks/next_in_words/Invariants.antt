use Rattle.std.proofs.Common.{◌-◌, ◌≤◌}
use Rattle.lsq_core.proofs.RoundLemmas.{NoneRound}
use Rattle.lsq_core.proofs.marks.Marks.next_in_words.Given as goal

abbrev pub invariant-loop-at : goal.invariant-loop-at
invariant-loop-at l = record { lower : l.from ≤ l.at; none : NoneRound l.self l.head l.row l.from l.at }

abbrev pub decreases-loop-at : goal.decreases-loop-at
decreases-loop-at l = l.self.width - l.at
