use Rattle.worker_run.specs.private.Settlings.{AreKept, AreSettled}
use Rattle.worker_run.proofs.settling.settle.Given as goal

abbrev pub invariant-loop-chan : goal.invariant-loop-chan
invariant-loop-chan l = record {
  kept : AreKept l.fn.workers l.workers;
  sound : AreSettled l.tables l.workers l.chan;
}
