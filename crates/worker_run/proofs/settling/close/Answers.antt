use Rattle.std.proofs.Common.{arith}
use Rattle.worker_run.proofs.KeptLemmas.{closed_none, closed_next, closed_all}
use Rattle.worker_run.proofs.settling.close.Goals as goal

pub loop-worker-init : goal.loop-worker-init
loop-worker-init c = closed_none c.args.workers.now

pub loop-worker-preserved : goal.loop-worker-preserved
loop-worker-preserved c =
    let k = c.close.ensures in
    closed_next c.args.workers.now c.loop-worker.workers c.loop-worker.worker-index c.close.new.self c.worker-item.result c.loop-worker-test.true c.loop-worker.invariant
    (record { made = k.made; closed = k.closed; rest = k.rest })

pub returns : goal.returns
returns c =
    closed_all c.args.workers.now c.loop-worker.workers c.loop-worker.worker-index (omega (arith, c.loop-worker-test.false, c.loop-worker.auto)) c.loop-worker.invariant
