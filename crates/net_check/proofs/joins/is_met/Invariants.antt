use Rattle.net_check.specs.private.Joins.{AreMetBelow}
use Rattle.net_check.proofs.joins.is_met.Given as goal

abbrev pub invariant-loop-p : goal.invariant-loop-p
invariant-loop-p l = AreMetBelow l.side l.net l.unit l.p
