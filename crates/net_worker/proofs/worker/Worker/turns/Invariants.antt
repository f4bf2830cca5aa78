use Rattle.std.proofs.Common.{◌≡◌}
use Rattle.net_worker.specs.Going.{GoesOn, HasAdded}
use Rattle.net_worker.specs.Waits.{IsLookedAll}
use Rattle.net_worker.specs.Workers.{IsMadeOf}
use Rattle.net_worker.proofs.worker.Worker.turns.Given as goal

abbrev pub invariant-loop : goal.invariant-loop
invariant-loop l = record {
  made : IsMadeOf l.tables l.self;
  goes : GoesOn l.tables l.fn.self l.self;
  added : HasAdded l.fired l.fn.self l.self;
  none : l.fired ≡ 0 → IsLookedAll l.tables l.fn.self l.self;
}
