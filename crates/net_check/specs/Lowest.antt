-- The lowest number with a property, and units and channels by their numbers.
use Rattle.std.specs.Prelude.{ℕ, ◌<◌, length}
use Rattle.net_types.specs.declared.net.Net.{Net}
use Rattle.net_types.specs.declared.net.Chan.{Chan}
use Rattle.net_types.specs.declared.net.Unit.{Unit as Kind}
use Rattle.net_types.specs.Nets.{kind_of, chan_at}

pub record IsLowest (P : ℕ → Type 0) (n : ℕ) : Type 0 where
  pub here : P n
  pub below : (m : ℕ) → m < n → P m → ⊥

-- the net has a unit of this number, and it lacks the property
pub record UnitLacks (net : Net) (P : Kind → Type 0) (u : ℕ) : Type 0 where
  pub within : u < length net.units
  pub lacks : P (kind_of net u) → ⊥

-- the net has a channel of this number, and it lacks the property
pub record ChanLacks (net : Net) (P : Chan → Type 0) (c : ℕ) : Type 0 where
  pub within : c < length net.chans
  pub lacks : P (chan_at net c) → ⊥
