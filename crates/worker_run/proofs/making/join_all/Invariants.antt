use Rattle.worker_run.specs.private.Makings.{AreJoinedTo}
use Rattle.worker_run.proofs.making.join_all.Given as goal

abbrev pub invariant-loop-chan : goal.invariant-loop-chan
invariant-loop-chan l = AreJoinedTo l.tables l.count l.limit l.chan l.workers
