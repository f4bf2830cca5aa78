use Rattle.net_check.specs.private.Joins.{AreKnown}
use Rattle.net_check.proofs.places.are_known.Given as goal

abbrev pub invariant-loop-p : goal.invariant-loop-p
invariant-loop-p l = AreKnown l.side l.net l.known l.unit l.p
