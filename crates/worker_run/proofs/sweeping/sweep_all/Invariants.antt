use Rattle.worker_run.specs.private.Sweepings.{AreSwept, rooms_of}
use Rattle.worker_run.proofs.sweeping.sweep_all.Given as goal

abbrev pub invariant-phases : goal.invariant-phases
invariant-phases g l = AreSwept l.tables l.fn.workers l.workers

abbrev pub decreases-phases : goal.decreases-phases
decreases-phases g l = rooms_of l.workers
