use Rattle.net_check.proofs.NameSets.{distinct_step, distinct_no}
use Rattle.net_check.proofs.headers.are_distinct.Goals as goal

pub returns-then-not-branch : goal.returns-then-not-branch
returns-then-not-branch c =
    distinct_no c.loop-name.known c.args.names.now c.loop-name.name-index _ c.name-item.result _ c.loop-name-test.true c.name-item.is c.in_ok-copy.ensures c.loop-name.invariant c.in_ok-insert.ensures.added c.if-not-branch.true

pub loop-name-preserved : goal.loop-name-preserved
loop-name-preserved c =
    distinct_step c.loop-name.known _ c.args.names.now c.loop-name.name-index _ c.name-item.result _ c.loop-name-test.true c.name-item.is c.in_ok-copy.ensures c.loop-name.invariant c.in_ok-insert.ensures.added c.if-not-branch.false
    (λ q. c.in_ok-insert.ensures.updates.0 q)
