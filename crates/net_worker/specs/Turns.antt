-- Turns of one of a worker's own units.
use Rattle.std.specs.Prelude.{◌≡◌, ℕ, ◌<◌, Option, Some, None, length}
use Rattle.net_types.specs.declared.net.Net.{Net}
use Rattle.net_types.specs.Nets.{chan_at}
use Rattle.net_core.specs.declared.plan.Laid.{Laid}
use Rattle.net_core.specs.Fire.{State, tokens_at}
use Rattle.net_worker.specs.Asking.{IsAsked}
use Rattle.net_worker.specs.Going.{GoesOn, HasAdded}
use Rattle.net_worker.specs.Views.{owner_in}
use Rattle.net_worker.specs.Workers.{IsMadeOf, IsWhole}
use Rattle.net_worker.specs.declared.tables.Tables.{Tables}
use Rattle.net_worker.specs.declared.worker.Worker.{Worker}

-- the worker is whole, and the unit is its own
pub record HasUnit (t : Tables) (w : Worker) (u : ℕ) : Type 0 where
  pub made : IsMadeOf t w
  pub whole : IsWhole t w
  pub mine : owner_in t u ≡ w.number
  pub within : u < length t.net.now.units

-- the worker made n firings; where it made none, it was only asked
pub record HasMade (t : Tables) (n : ℕ) (a b : Worker) : Type 0 where
  pub made : IsMadeOf t b
  pub later : GoesOn t a b
  pub added : HasAdded n a b
  pub none : n ≡ 0 → IsAsked a b

-- the channel on which a token is laid has room
abbrev pub HasRoomToLay : Net → State → Option Laid → Type 0
HasRoomToLay net s None = Unit {0}
HasRoomToLay net s (Some l) = length (tokens_at s l.chan) < (chan_at net l.chan).slots
