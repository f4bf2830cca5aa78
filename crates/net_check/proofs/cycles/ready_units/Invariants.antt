use Rattle.net_check.proofs.PeelLemmas.{Readied}
use Rattle.net_check.proofs.cycles.ready_units.Given as goal

abbrev pub invariant-loop-u : goal.invariant-loop-u
invariant-loop-u l = Readied l.waits l.u l.ready.items
