use Rattle.net_check.proofs.SizeLemmas.{Summed}
use Rattle.net_check.proofs.sizes.check_sizes.Given as goal

abbrev pub invariant-loop-c : goal.invariant-loop-c
invariant-loop-c l = Summed l.net l.together l.c
