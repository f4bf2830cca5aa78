use Rattle.std.proofs.Common.{◌<◌, length}
use Rattle.worker_run.specs.Crews.{AllWhole, AreACrew}
use Rattle.given_nets.proofs.alone.sweep_to_end.Given as goal

abbrev pub invariant-sweeps : goal.invariant-sweeps
invariant-sweeps l = record {
  crew : AreACrew l.crew.tables l.crew.workers.items;
  whole : AllWhole l.crew.tables l.crew.workers.items;
  some : 0 < length l.crew.workers.items;
}
