-- The channels at the first places of a unit.
use Rattle.std.specs.Prelude.{ℕ, List}
use Rattle.net_types.specs.declared.net.Chan.{Chan}
use Rattle.net_types.specs.Nets.{into, out_of}
use Rattle.net_check.specs.declared.pins.Pins.{Pins}

-- into the first three input places of the unit u and out of its first output place; the number of channels where there is none
abbrev pub pins_of : ℕ → List Chan → Pins
pins_of u chans = record { first = into u 0 chans; second = into u 1 chans; third = into u 2 chans; out = out_of u 0 chans }
