use Rattle.net_check.proofs.AloneLemmas.{AreFirst}
use Rattle.net_check.proofs.joins.are_alone.Given as goal

abbrev pub invariant-loop-c : goal.invariant-loop-c
invariant-loop-c l = AreFirst l.side l.chans l.c
