-- Private: only contracts of this crate cite it. Tables of the channels at the first places of units.
use Rattle.std.specs.Prelude.{◌≡◌, ℕ, List, length, get_or}
use Rattle.net_types.specs.declared.net.Chan.{Chan}
use Rattle.net_check.specs.declared.pins.Pins.{Pins}
use Rattle.net_check.specs.declared.wires.Wires.{Wires}
use Rattle.net_check.specs.Pins.{pins_of}
use Rattle.net_check.specs.private.Wires.{wire}

-- no place has a channel, where there are so many channels
abbrev pub no_pins : ℕ → Pins
no_pins n = record { first = n; second = n; third = n; out = n }

-- what the tables of both sides tell of a unit
pub record AreToldPins (i o : Wires) (u : ℕ) (p : Pins) : Type 0 where
  pub first : p.first ≡ wire i.starts.items i.chans.items i.none u 0
  pub second : p.second ≡ wire i.starts.items i.chans.items i.none u 1
  pub third : p.third ≡ wire i.starts.items i.chans.items i.none u 2
  pub out : p.out ≡ wire o.starts.items o.chans.items o.none u 0

-- a table has the record of each unit, and past the units none has a channel
pub record ArePins (pins : List Pins) (chans : List Chan) : Type 0 where
  pub tells : (u : ℕ) → get_or pins u (no_pins (length chans)) ≡ pins_of u chans
