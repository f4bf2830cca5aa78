use Rattle.worker_run.proofs.KeptLemmas.{AreClosedTo}
use Rattle.worker_run.proofs.settling.close.Given as goal

abbrev pub invariant-loop-worker : goal.invariant-loop-worker
invariant-loop-worker l = AreClosedTo l.fn.workers l.workers l.worker-index
