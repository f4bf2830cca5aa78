use Rattle.std.proofs.Common.{◌≡◌}
use Rattle.worker_run.specs.declared.sweeping.Asked.TheVariants as who
use Rattle.worker_run.proofs.SweepLemmas.{AreSweptTo}
use Rattle.worker_run.proofs.sweeping.sweep_each.Given as goal

abbrev pub invariant-loop-worker : goal.invariant-loop-worker
invariant-loop-worker g l = AreSweptTo (l.asked ≡ who.All) l.tables l.fn.workers l.workers l.round.made l.worker-index
