use Rattle.net_check.proofs.FirstLemmas.{Noted}
use Rattle.net_check.proofs.firsts.firsts.Given as goal

abbrev pub invariant-loop-u : goal.invariant-loop-u
invariant-loop-u l = Noted l.role l.units l.u l.count l.table.items
