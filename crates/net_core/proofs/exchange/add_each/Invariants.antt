use Rattle.net_core.specs.private.Exchanges.{AreSummed}
use Rattle.net_core.proofs.exchange.add_each.Given as goal

abbrev pub invariant-loop-at : goal.invariant-loop-at
invariant-loop-at l = AreSummed l.fn.sums.items l.more l.at l.sums.items
