use Rattle.std.proofs.Common.{◌≡◌, ◌-◌, ◌+◌, ◌*◌, ◌^◌, true}
use Rattle.net_types.specs.declared.firing.Act.{Act}
use Rattle.net_types.specs.Nets.{firing}
use Rattle.net_types.specs.Order.{ActLe, ActFits, act_rank, act_number}
use Rattle.net_core.specs.Fire.{enabled}
use Rattle.net_core.specs.States.{state_of}
use Rattle.net_worker.specs.Asking.{IsAsked}
use Rattle.net_worker.specs.Going.{IsRefused}
use Rattle.net_worker.specs.Workers.{IsMadeOf, IsWaiting}
use Rattle.net_worker.proofs.worker.Worker.try_unit.Given as goal

abbrev pub invariant-acts : goal.invariant-acts
invariant-acts l = record {
  made : IsMadeOf l.tables l.self;
  asked : IsAsked l.fn.self l.self;
  fits : ActFits l.from;
  refused : (b : Act) → enabled l.tables.net.now (state_of l.self.portion.state) (firing l.unit b) → (ActLe l.from b → ⊥) → IsRefused l.tables l.fn.self l.self (firing l.unit b);
  waits : l.waiting ≡ true → (b : Act) → enabled l.tables.net.now (state_of l.self.portion.state) (firing l.unit b) → (ActLe l.from b → ⊥) → IsWaiting l.tables l.self (firing l.unit b);
}

abbrev pub decreases-acts : goal.decreases-acts
decreases-acts l = 11 * 2 ^ 64 - (act_rank l.from * 2 ^ 64 + act_number l.from)
