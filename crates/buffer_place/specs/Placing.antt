-- Slots and delays of the channels of a net, by a timing.
use Rattle.std.specs.Prelude.{◌≡◌, ◌⊎◌, ℕ, ◌+◌, ◌*◌, ◌<◌, ◌≤◌, List, ◌∷◌, map, length, get_or, Option, Some, None}
use Rattle.std.specs.List.{All}
use Rattle.el_base.specs.Limits.{max_sum_of_slots}
use Rattle.net_types.specs.declared.net.Chan.{Chan}
use Rattle.net_types.specs.declared.net.Net.{Net}
use Rattle.net_types.specs.Nets.{kind_of, chan_at}
use Rattle.net_check.specs.Cycles.{Leads, IsClosedWalk}
use Rattle.net_check.specs.Retimed.{SamePlain}
use Rattle.buffer_place.specs.declared.timing.Timing.{Timing}
use Rattle.buffer_place.specs.Timings.{IsTiming, source_delay}
use Rattle.buffer_place.specs.Chains.{weight, walk_weight, AreLevels, depth_delay}

-- the net with the delays of the classes alone
abbrev pub classed : Timing → Net → Net
classed t net = record net { chans = map (λ (c : Chan). record c { delay = source_delay t net c }) net.chans }

-- a cycle of channels of delay 0 goes through the channel c
abbrev pub LiesOnCycle : Net → ℕ → Type 0
LiesOnCycle net c = (cs : List ℕ) × IsClosedWalk net (c ∷ cs)

-- as many slots for each of n channels as are wanted, or as many as there may be
pub record AreMostSlots (wanted n slots : ℕ) : Type 0 where
  pub few : slots ≤ wanted
  pub together : n * slots ≤ max_sum_of_slots
  pub most : (slots ≡ wanted) ⊎ (max_sum_of_slots < n * (slots + 1))

-- the delays where no depth is asked: a channel has the delay of the class of its unit; but where this is 0 and a cycle of
-- channels whose classes have delay 0 goes through it, it has delay 1
pub record AreUsualDelays (t : Timing) (old new : Net) : Type 0 where
  pub on_cycle : (c : ℕ) → LiesOnCycle (classed t old) c → (chan_at new c).delay ≡ 1
  pub off_cycle : (c : ℕ) → c < length old.chans → (LiesOnCycle (classed t old) c → ⊥) → (chan_at new c).delay ≡ source_delay t old (chan_at old c)

-- a cycle of channels whose classes have delay 0 goes through the channel, and it does not lead to a unit of a greater number
pub record IsFeedback (t : Timing) (net : Net) (c : ℕ) : Type 0 where
  pub on_cycle : LiesOnCycle (classed t net) c
  pub falls : (chan_at net c).to.unit ≤ (chan_at net c).from.unit

-- the class of the channel has no delay, and it is no feedback
pub record MayStay (t : Timing) (net : Net) (c : ℕ) : Type 0 where
  pub within : c < length net.chans
  pub class : source_delay t net (chan_at net c) ≡ 0
  pub ahead : IsFeedback t net c → ⊥

-- an order of the units in which each channel that may stay without delay leads to a later unit
abbrev pub IsRising : Timing → Net → (ℕ → ℕ) → Type 0
IsRising t net order = (c : ℕ) → MayStay t net c → order (chan_at net c).from.unit < order (chan_at net c).to.unit

-- delays by the levels of units: a feedback has delay 1; any other channel the delay of its class, or where that is 0 and it
-- is not low, 1
pub record AreLevelDelays (t : Timing) (depth : ℕ) (level : ℕ → ℕ) (old new : Net) : Type 0 where
  pub feedback : (c : ℕ) → IsFeedback t old c → (chan_at new c).delay ≡ 1
  pub other : (c : ℕ) → c < length old.chans → (IsFeedback t old c → ⊥) → (chan_at new c).delay ≡ depth_delay t depth level old (chan_at old c)

-- the delays of a net by a depth, from the levels that they give
pub record AreDepthDelays (t : Timing) (depth : ℕ) (old new : Net) : Type 0 where
  pub order : ℕ → ℕ
  pub rising : IsRising t old order
  pub level : ℕ → ℕ
  pub levels : AreLevels new level
  pub delays : AreLevelDelays t depth level old new

abbrev pub AreDelays : Timing → Option ℕ → Net → Net → Type 0
AreDelays t None old new = AreUsualDelays t old new
AreDelays t (Some depth) old new = AreDepthDelays t depth old new

-- slots and delays alone are changed: delays by the depth of the timing, if any, and equal slots
pub record IsPlaced (t : Timing) (old new : Net) : Type 0 where
  pub same : SamePlain old new
  pub delays : AreDelays t t.depth old new
  pub slots : ℕ
  pub most : AreMostSlots t.slots (length old.chans) slots
  pub each : All (λ (c : Chan). c.slots ≡ slots) new.chans

-- by a timing a net is placed in one way
abbrev pub PlacementsAreOne : Type 0
PlacementsAreOne = (t : Timing) (old m n : Net) → IsPlaced t old m → IsPlaced t old n → m ≡ n

-- where a net is placed by a depth, no walk along channels of delay 0 weighs more
abbrev pub WalksAreWithinDepth : Type 0
WalksAreWithinDepth = (t : Timing) (depth : ℕ) (old new : Net) → IsTiming t → t.depth ≡ Some depth → IsPlaced t old new
    → (v u : ℕ) (cs : List ℕ) → Leads new v cs u → walk_weight new v cs ≤ depth

-- one of the channels has a delay
abbrev pub HasRegister : Net → List ℕ → Type 0
HasRegister net cs = (i : ℕ) × (i < length cs) × (0 < (chan_at net (get_or cs i 0)).delay)

-- where a net is placed, a channel has a delay on each cycle of channels whose classes have none
abbrev pub CyclesHaveRegisters : Type 0
CyclesHaveRegisters = (t : Timing) (old new : Net) → IsPlaced t old new → (cs : List ℕ) → IsClosedWalk (classed t old) cs → HasRegister new cs

-- some walk along channels of delay 0 to the unit that the channel leaves weighs, with the unit that it enters, more than the depth
pub record IsDeep (depth : ℕ) (net : Net) (c : Chan) : Type 0 where
  pub start : ℕ
  pub walk : List ℕ
  pub leads : Leads net start walk c.from.unit
  pub above : depth < walk_weight net start walk + weight (kind_of net c.to.unit)

-- where a net is placed by a depth, a channel that may stay without delay has one only where a walk with it would weigh more
abbrev pub RegistersAreNeeded : Type 0
RegistersAreNeeded = (t : Timing) (depth : ℕ) (old new : Net) → t.depth ≡ Some depth → IsPlaced t old new
    → (c : ℕ) → MayStay t old c → 0 < (chan_at new c).delay → IsDeep depth new (chan_at new c)
