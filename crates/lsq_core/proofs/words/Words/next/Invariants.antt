use Rattle.std.proofs.Common.{◌≡◌, ℕ, ◌^◌, ◌<◌, ◌≤◌, ◌-◌, get_or}
use Rattle.lsq_core.proofs.BitLemmas.{NoneFrom}
use Rattle.lsq_core.proofs.words.Words.next.Given as goal

abbrev pub invariant-loop-at : goal.invariant-loop-at
invariant-loop-at l = record {
  lower : l.from ≤ l.at;
  none : NoneFrom l.self l.from l.at;
  words : l.words ≡ l.self;
  wide : (i : ℕ) → get_or l.words i 0 < 2 ^ 64;
}

abbrev pub decreases-loop-at : goal.decreases-loop-at
decreases-loop-at l = l.to - l.at
