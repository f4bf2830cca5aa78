use Rattle.std.proofs.Common.{◌≡◌, ℕ, ◌<◌, get_or, true}
use Rattle.net_worker.specs.Glances.{IsLooked}
use Rattle.net_worker.specs.Offers.{NoCreditAt}
use Rattle.net_worker.specs.Workers.{IsMadeOf, IsAwaited, put_end}
use Rattle.net_worker.proofs.worker.Worker.ask.Given as goal

abbrev pub invariant-loop-at : goal.invariant-loop-at
invariant-loop-at l = record {
  made : IsMadeOf l.tables l.self;
  looked : IsLooked l.fn.self l.self;
  denied : l.self.resting ≡ true → (k : ℕ) → k < l.at → IsAwaited l.self (get_or l.fn.self.outs.items k 0)
      → NoCreditAt (put_end l.fn.self (get_or l.fn.self.outs.items k 0)) (put_end l.self (get_or l.fn.self.outs.items k 0));
}
