-- Words that the contracts of private functions cite, and no other.
use Rattle.std.specs.Prelude.{ℕ, ◌==◌, ◌&&◌, ◌||◌, nat_lt, not, Bool, cond, List, map, filter, length, get_or}
use Rattle.net_types.specs.declared.net.Chan.{Chan}
use Rattle.net_types.specs.declared.net.Net.{Net}
use Rattle.graph_parts.specs.Graph.{Edge}
use Rattle.graph_parts.specs.Parts.{ArePartsOf}
use Rattle.buffer_place.specs.declared.timing.Timing.{Timing}
use Rattle.buffer_place.specs.Timings.{source_delay}

-- the channels out of units whose class has delay 0
abbrev pub instant : Timing → Net → List Chan → List Chan
instant t net cs = filter (λ c. source_delay t net c == 0) cs

-- the units that channels come from, and those that they go to
abbrev pub sources : List Chan → List ℕ
sources cs = map (λ (c : Chan). c.from.unit) cs

abbrev pub targets : List Chan → List ℕ
targets cs = map (λ (c : Chan). c.to.unit) cs

-- two units have one mark exactly where each can be reached from the other along such channels
abbrev pub AreUnitParts : Timing → Net → List ℕ → Type 0
AreUnitParts t net marks = ArePartsOf (length net.units) (Edge (sources (instant t net net.chans)) (targets (instant t net net.chans))) marks

-- have the units of the channel one mark
abbrev pub is_joined : List ℕ → Chan → Bool
is_joined marks c = get_or marks c.from.unit 0 == get_or marks c.to.unit 0

-- the delay of a channel, where units on a common cycle of channels of delay 0 have one mark
abbrev pub marked_delay : Timing → Net → List ℕ → Chan → ℕ
marked_delay t net marks c = cond ((source_delay t net c == 0) && is_joined marks c) 1 (source_delay t net c)

-- does the channel lead to a unit of a greater number or of another part
abbrev pub is_ahead : List ℕ → Chan → Bool
is_ahead marks c = nat_lt c.from.unit c.to.unit || not (is_joined marks c)

-- the channels that may stay without delay
abbrev pub staying : Timing → Net → List ℕ → List Chan → List Chan
staying t net marks cs = filter (λ c. (source_delay t net c == 0) && is_ahead marks c) cs
