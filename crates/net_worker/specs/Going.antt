-- How a worker goes on in a sweep.
use Rattle.std.specs.Prelude.{◌≡◌, ℕ, ◌+◌, max, length, Some}
use Rattle.net_types.specs.declared.firing.Firing.{Firing}
use Rattle.net_types.specs.declared.firing.Act.{Act}
use Rattle.net_types.specs.declared.net.Net.{Net}
use Rattle.net_types.specs.Nets.{firing}
use Rattle.net_types.specs.Order.{ActFits}
use Rattle.net_core.specs.Fire.{State, Effect, effect, enabled}
use Rattle.net_core.specs.States.{state_of}
use Rattle.net_core.specs.Uses.{used}
use Rattle.net_worker.specs.Asking.{IsAsked}
use Rattle.net_worker.specs.Offers.{IsNotOffered, greatest_in}
use Rattle.net_worker.specs.Steps.{last_stamp}
use Rattle.net_worker.specs.Sweeps.{SweptExactly}
use Rattle.net_worker.specs.Workers.{owner_in, SameWorker, IsWaiting, AllWait}
use Rattle.net_worker.specs.declared.passes.Tried.{Tried}
use Rattle.net_worker.specs.declared.passes.Tried.TheVariants as tried
use Rattle.net_worker.specs.declared.tables.Tables.{Tables}
use Rattle.net_worker.specs.declared.worker.Worker.{Worker}

-- the worker b is the worker a later in a sweep
pub record IsLater (t : Tables) (a b : Worker) : Type 0 where
  pub same : SameWorker a b
  pub exact : SweptExactly t a b
  pub clock : a.clock ≡ last_stamp 0 a.log.items

-- whatever the worker a was earlier in the sweep, b is later
abbrev pub GoesOn : Tables → Worker → Worker → Type 0
GoesOn t a b = (z : Worker) → IsLater t z a → IsLater t z b

-- so many entries were added
abbrev pub HasAdded : ℕ → Worker → Worker → Type 0
HasAdded n a b = length b.log.items ≡ length a.log.items + n

-- the greatest of the clock and the stamps of the tokens that are held at the places that a firing uses
abbrev pub base_of : Tables → Worker → Firing → ℕ
base_of t w f = max w.clock (greatest_in t.net.now w.takes.items f.unit (used t.net.now (state_of w.portion.state) f))

-- the firing was not made, although it has an effect: its token was refused
abbrev pub IsRefused : Tables → Worker → Worker → Firing → Type 0
IsRefused t a b f = (x : Effect) → effect t.net.now (state_of a.portion.state) f ≡ Some x
    → IsNotOffered t.net.now (state_of a.portion.state) f.unit x.put (base_of t a f) a.puts.items b.puts.items

-- the worker was only asked, and the firing was not made
pub record IsHeld (t : Tables) (a b : Worker) (f : Firing) : Type 0 where
  pub asked : IsAsked a b
  pub refused : IsRefused t a b f

-- of all firings of the unit u, each that is enabled in the state held was refused
pub record IsUnitHeld (t : Tables) (a b : Worker) (u : ℕ) : Type 0 where
  pub asked : IsAsked a b
  pub refused : (act : Act) → enabled t.net.now (state_of a.portion.state) (firing u act) → IsRefused t a b (firing u act)

-- the same, where the unit is the worker's own
pub record IsOwnHeld (t : Tables) (a b : Worker) (u : ℕ) : Type 0 where
  pub asked : IsAsked a b
  pub refused : owner_in t u ≡ a.number → (act : Act) → enabled t.net.now (state_of a.portion.state) (firing u act) → IsRefused t a b (firing u act)

-- each firing of the unit u that is enabled in the state held waits for a credit
abbrev pub UnitWaits : Tables → Worker → ℕ → Type 0
UnitWaits t w u = (act : Act) → enabled t.net.now (state_of w.portion.state) (firing u act) → IsWaiting t w (firing u act)

-- the numbers of the unit's acts that are enabled have their bits
abbrev pub ActsFit : Net → State → ℕ → Type 0
ActsFit net s u = (act : Act) → enabled net s (firing u act) → ActFits act

-- so of all units of the worker
pub record IsAllHeld (t : Tables) (a b : Worker) : Type 0 where
  pub asked : IsAsked a b
  pub refused : (f : Firing) → owner_in t f.unit ≡ a.number → enabled t.net.now (state_of a.portion.state) f → IsRefused t a b f

-- ---- what trying firings came to

-- of one firing: it was made; or it was not; or neither, and it waits for a credit
abbrev pub OneTriedAs : Tables → Tried → Worker → Worker → Firing → Type 0
OneTriedAs t tried.Made a b f = HasAdded 1 a b
OneTriedAs t tried.Held a b f = IsHeld t a b f
OneTriedAs t tried.Waiting a b f = IsHeld t a b f × IsWaiting t b f

-- of all firings of the unit u
abbrev pub UnitTriedAs : Tables → Tried → Worker → Worker → ℕ → Type 0
UnitTriedAs t tried.Made a b u = HasAdded 1 a b
UnitTriedAs t tried.Held a b u = IsUnitHeld t a b u
UnitTriedAs t tried.Waiting a b u = IsUnitHeld t a b u × UnitWaits t b u

-- the same, where the unit is the worker's own
abbrev pub OwnTriedAs : Tables → Tried → Worker → Worker → ℕ → Type 0
OwnTriedAs t tried.Made a b u = HasAdded 1 a b
OwnTriedAs t tried.Held a b u = IsOwnHeld t a b u
OwnTriedAs t tried.Waiting a b u = IsOwnHeld t a b u × (owner_in t u ≡ a.number → UnitWaits t b u)

-- of all firings of the worker's units
abbrev pub TriedAs : Tables → Tried → Worker → Worker → Type 0
TriedAs t tried.Made a b = HasAdded 1 a b
TriedAs t tried.Held a b = IsAllHeld t a b
TriedAs t tried.Waiting a b = IsAllHeld t a b × AllWait t b
