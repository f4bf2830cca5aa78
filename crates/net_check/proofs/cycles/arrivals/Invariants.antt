use Rattle.net_check.proofs.PeelLemmas.{Waits}
use Rattle.net_check.proofs.cycles.arrivals.Given as goal

abbrev pub invariant-loop-chan : goal.invariant-loop-chan
invariant-loop-chan l = Waits l.net l.chan-index l.waits.items
