use Rattle.std.proofs.Common.{ℕ, ◌<◌, get_or}
use Rattle.net_worker.specs.Glances.{IsLooked, IsSeen}
use Rattle.net_worker.specs.Workers.{IsMadeOf}
use Rattle.net_worker.proofs.worker.Worker.look.Given as goal

abbrev pub invariant-loop-at : goal.invariant-loop-at
invariant-loop-at l = record {
  made : IsMadeOf l.tables l.self;
  looked : IsLooked l.fn.self l.self;
  seen : (k : ℕ) → k < l.at → IsSeen (get_or l.fn.self.ins.items k 0) l.fn.self l.self;
}
