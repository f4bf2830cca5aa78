use Rattle.net_check.proofs.PeelLemmas.{readied_yes, readied_no}
use Rattle.net_check.proofs.cycles.ready_units.Goals as goal
use Rattle.net_check.proofs.cycles.ready_units.Goals.{then-wait-eq0+in_ok-push, else-wait-eq0}

pub loop-u-preserved : goal.loop-u-preserved
loop-u-preserved c =
    elim c.if-wait-eq0.branch [
      | then-wait-eq0+in_ok-push w ↦
          (let t = readied_yes c.args.waits.now c.loop-u.u c.loop-u.ready.items c.loop-u-test.true w.if-wait-eq0.true c.loop-u.invariant in
          rw (w.ready-is) (rw (w.in_ok-push.ensures.items) t))
      | else-wait-eq0 w ↦
          (let t = readied_no c.args.waits.now c.loop-u.u c.loop-u.ready.items w.if-wait-eq0.false c.loop-u.invariant in
          rw (w.ready-is) t)
    ]
