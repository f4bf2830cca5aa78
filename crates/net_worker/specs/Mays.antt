-- When a worker may make a firing, by the state and the ends that it holds.
use Rattle.std.specs.Prelude.{◌≡◌, ℕ, ◌<◌, Some, [], ◌∷◌}
use Rattle.std.specs.List.{AllByRecursion}
use Rattle.elastic_link.specs.declared.message.Token.{Token}
use Rattle.net_types.specs.declared.firing.Firing.{Firing}
use Rattle.net_types.specs.Nets.{into}
use Rattle.net_core.specs.Fire.{Effect, effect}
use Rattle.net_core.specs.States.{state_of}
use Rattle.net_core.specs.Uses.{used}
use Rattle.net_worker.specs.Plays.{HasRoomIn, MayIn}
use Rattle.net_worker.specs.Workers.{owner_in, IsInto, IsMadeOf, take_end, held_by}
use Rattle.net_worker.specs.declared.tables.Tables.{Tables}
use Rattle.net_worker.specs.declared.worker.Worker.{Worker}

-- the token that is held at this place, where one of another worker is, has a stamp below n
abbrev pub IsEarlyAt : Tables → Worker → ℕ → ℕ → ℕ → Type 0
IsEarlyAt t a u n p = (x : Token) → IsInto t a.number (into u p t.net.now.chans) → held_by (take_end a (into u p t.net.now.chans)) ≡ x ∷ [] → x.stamp < n

-- the firing does that in the state that the worker holds, has room there, and n is above the clock and the tokens held at places that it uses
pub record MayBeMade (t : Tables) (a : Worker) (f : Firing) (e : Effect) (n : ℕ) : Type 0 where
  pub mine : owner_in t f.unit ≡ a.number
  pub does : effect t.net.now (state_of a.portion.state) f ≡ Some e
  pub room : HasRoomIn t.net.now (owner_in t) a.number (state_of a.portion.state) f.unit e.put
  pub later : a.clock < n
  pub early : AllByRecursion (IsEarlyAt t a f.unit n) (used t.net.now (state_of a.portion.state) f)

-- so it may be made in the worker's state after its log
abbrev pub WorkerMay : Type 0
WorkerMay = (t : Tables) (a : Worker) (m : IsMadeOf t a) (f : Firing) (e : Effect) (n : ℕ) → MayBeMade t a f e n
    → (effect t.net.now m.after.state f ≡ Some e) × MayIn t.net.now (owner_in t) a.number n m.after f
