use Rattle.std.proofs.Common.{◌≡◌, length}
use Rattle.worker_run.specs.private.Makings.{AreNew}
use Rattle.worker_run.proofs.making.new_workers.Given as goal

abbrev pub invariant-loop-number : goal.invariant-loop-number
invariant-loop-number l = record {
  long : length l.workers.items ≡ l.number;
  each : AreNew l.tables l.count l.limit 0 l.workers.items;
}
