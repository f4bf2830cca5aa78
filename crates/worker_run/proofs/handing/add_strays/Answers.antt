use Rattle.std.proofs.Common.{◌<◌, length, arith}
use Rattle.net_core.specs.States.{state_of}
use Rattle.worker_run.proofs.AssembleLemmas.{strays_fit}
use Rattle.worker_run.proofs.handing.add_strays.Goals as goal

pub add_strays-requires-clause-fits : goal.add_strays-requires-clause-fits
add_strays-requires-clause-fits c =
    let l : c.loop-worker.worker-index < length c.args.workers.now = omega (arith, c.loop-worker-test.true, c.loop-worker.auto) in
    strays_fit c.args.workers.now (state_of c.args.into.now) (state_of c.loop-worker.into) c.loop-worker.worker-index c.worker-item.result c.requires.few c.requires.each l c.requires.none c.loop-worker.invariant.strays c.worker-item.is
