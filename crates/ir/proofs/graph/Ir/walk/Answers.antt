use Rattle.ir.proofs.Walking.{at_more, walk_returns, walk_stops}
use Rattle.ir.proofs.graph.Ir.walk.Goals as goal

pub returns-in-Leaves : goal.returns-in-Leaves
returns-in-Leaves c =
    walk_returns _ _ _ _ _ _ _ _ _ c.in_ok-passed.passed _ c.loop-visit.invariant c.in_ok-passed.ensures c.in-Leaves.is c.loop-visit-test.true

pub loop-visit-preserved : goal.loop-visit-preserved
loop-visit-preserved c = at_more _ _ _ _ _ _ _ _ c.in_ok-passed.passed _ c.loop-visit.invariant c.in_ok-passed.ensures c.in-Onto.is

pub returns : goal.returns
returns c = walk_stops _ _ _ _ _ _ _ _ _ c.loop-visit.invariant c.loop-visit.auto.visit-end c.loop-visit-test.false
