use Rattle.std.proofs.Common.{not}
use Rattle.std.specs.List.{count_by}
use Rattle.net_check.proofs.PeelLemmas.{Peeling}
use Rattle.net_check.proofs.cycles.peel.Given as goal

abbrev pub invariant-units : goal.invariant-units
invariant-units l = Peeling l.net l.waits.items l.ready.items l.peeled.items

abbrev pub decreases-units : goal.decreases-units
decreases-units l = count_by not l.peeled.items
