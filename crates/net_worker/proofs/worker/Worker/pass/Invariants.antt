use Rattle.std.proofs.Common.{◌≡◌}
use Rattle.net_worker.specs.Asking.{IsAsked}
use Rattle.net_worker.specs.Going.{GoesOn, HasAdded}
use Rattle.net_worker.specs.Workers.{IsMadeOf}
use Rattle.net_worker.proofs.worker.Worker.pass.Given as goal

abbrev pub invariant-visits : goal.invariant-visits
invariant-visits l = record {
  made : IsMadeOf l.tables l.self;
  goes : GoesOn l.tables l.fn.self l.self;
  added : HasAdded l.fired l.fn.self l.self;
  none : l.fired ≡ 0 → IsAsked l.fn.self l.self;
}
