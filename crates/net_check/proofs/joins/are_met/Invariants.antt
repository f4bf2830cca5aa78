use Rattle.net_check.proofs.AloneLemmas.{AreMetUnits}
use Rattle.net_check.proofs.joins.are_met.Given as goal

abbrev pub invariant-loop-u : goal.invariant-loop-u
invariant-loop-u l = AreMetUnits l.side l.net l.u
