use Rattle.std.proofs.Common.{◌≡◌, ◌<◌, true}
use Rattle.net_types.specs.declared.firing.Firing.{Firing}
use Rattle.net_core.specs.Fire.{enabled}
use Rattle.net_core.specs.States.{state_of}
use Rattle.net_worker.specs.Asking.{IsAsked}
use Rattle.net_worker.specs.Going.{IsRefused}
use Rattle.net_worker.specs.Workers.{owner_in, IsMadeOf, IsWaiting}
use Rattle.net_worker.proofs.worker.Worker.exact_pass.Given as goal

abbrev pub invariant-loop-at : goal.invariant-loop-at
invariant-loop-at l = record {
  made : IsMadeOf l.tables l.self;
  asked : IsAsked l.fn.self l.self;
  refused : (f : Firing) → f.unit < l.at → owner_in l.tables f.unit ≡ l.fn.self.number → enabled l.tables.net.now (state_of l.fn.self.portion.state) f → IsRefused l.tables l.fn.self l.self f;
  waits : l.waiting ≡ true → (f : Firing) → f.unit < l.at → owner_in l.tables f.unit ≡ l.self.number → enabled l.tables.net.now (state_of l.self.portion.state) f → IsWaiting l.tables l.self f;
}
