use Rattle.std.proofs.Common.{◌≡◌}
use Rattle.worker_run.specs.Crews.{AllWhole, AreACrew}
use Rattle.given_nets.proofs.sweeps.sweep_in_turn.Given as goal

abbrev pub invariant-loop-turn : goal.invariant-loop-turn
invariant-loop-turn l = record {
  tables : l.crew.tables ≡ l.fn.crew.tables;
  crew : AreACrew l.crew.tables l.crew.workers.items;
  whole : AllWhole l.crew.tables l.crew.workers.items;
}
