use Rattle.worker_run.specs.private.Sweepings.{AreSwept, rooms_of}
use Rattle.worker_run.proofs.sweeping.sweep_in_turn.Given as goal

abbrev pub invariant-rounds : goal.invariant-rounds
invariant-rounds g l = AreSwept l.tables l.fn.workers l.workers

abbrev pub decreases-rounds : goal.decreases-rounds
decreases-rounds g l = rooms_of l.workers
