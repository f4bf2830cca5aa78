use Rattle.net_check.proofs.PeelLemmas.{Targets}
use Rattle.net_check.proofs.cycles.instant_targets.Given as goal

abbrev pub invariant-loop-chan : goal.invariant-loop-chan
invariant-loop-chan l = Targets l.net l.chan-index l.targets.items
