-- Chains of units without a register between them: the weights of walks along channels of delay 0, the levels of units, and
-- the delays that keep them low.
use Rattle.std.specs.Prelude.{◌≡◌, ◌⊎◌, ℕ, ◌+◌, ◌≤◌, ◌==◌, nat_le, Bool, cond, List, [], ◌∷◌}
use Rattle.el_base.specs.declared.operation.Op1.{Op1}
use Rattle.el_base.specs.declared.operation.Op1.TheVariants as op1
use Rattle.net_types.specs.declared.net.Chan.{Chan}
use Rattle.net_types.specs.declared.net.Net.{Net}
use Rattle.net_types.specs.declared.net.Unit.{Unit as Kind}
use Rattle.net_types.specs.declared.net.Unit.TheVariants as kind
use Rattle.net_types.specs.Nets.{kind_of, chan_at}
use Rattle.net_check.specs.Cycles.{IsInstant}
use Rattle.buffer_place.specs.declared.timing.Timing.{Timing}
use Rattle.buffer_place.specs.Timings.{source_delay}

-- 1 for an operation that computes, 0 for one that converts widths, which is wires
abbrev pub op1_weight : Op1 → ℕ
op1_weight op1.Neg32 = 1
op1_weight op1.Neg64 = 1
op1_weight op1.Not32 = 1
op1_weight op1.Not64 = 1
op1_weight op1.Zero32 = 1
op1_weight op1.Zero64 = 1
op1_weight op1.S8to16 = 0
op1_weight op1.S8to32 = 0
op1_weight op1.S8to64 = 0
op1_weight op1.S16to32 = 0
op1_weight op1.S16to64 = 0
op1_weight op1.S32to64 = 0
op1_weight op1.U8to16 = 0
op1_weight op1.U8to32 = 0
op1_weight op1.U8to64 = 0
op1_weight op1.U16to32 = 0
op1_weight op1.U16to64 = 0
op1_weight op1.U32to64 = 0
op1_weight op1.Cut16to8 = 0
op1_weight op1.Cut32to8 = 0
op1_weight op1.Cut32to16 = 0
op1_weight op1.Cut64to8 = 0
op1_weight op1.Cut64to16 = 0
op1_weight op1.Cut64to32 = 0

-- 1 for a unit that works on tokens or chooses among them; 0 for one that is wires alone, as a fork or a conversion of widths, and for the ends of
-- the net
abbrev pub weight : Kind → ℕ
weight kind.Entry = 0
weight (kind.Param j) = 0
weight (kind.Const w n) = 0
weight (kind.Op1 op) = op1_weight op
weight (kind.Op2 op) = 1
weight (kind.Select w) = 1
weight (kind.Fork w n) = 0
weight (kind.Mux w n) = 1
weight (kind.Cmerge n) = 1
weight (kind.Branch w) = 1
weight (kind.Sink w) = 0
weight (kind.Read a) = 1
weight (kind.Lsq a d ps gs f) = 1
weight kind.Exit = 0

-- the weights of the units along a walk from the unit v over the channels of these numbers, v among them
abbrev pub walk_weight : Net → ℕ → List ℕ → ℕ
walk_weight net v [] = weight (kind_of net v)
walk_weight net v (c ∷ cs) = weight (kind_of net v) + walk_weight net (chan_at net c).to.unit cs

-- the level of the unit u comes over a channel of delay 0 from the unit `source`
pub record ComesOver (net : Net) (level : ℕ → ℕ) (u : ℕ) : Type 0 where
  pub source : ℕ
  pub chan : ℕ
  pub instant : IsInstant net source u chan
  pub is : level u ≡ level source + weight (kind_of net u)

-- the level of a unit is the greatest of its weight and, over the channels of delay 0 into it, of the level of the unit that
-- the channel leaves and its weight together
pub record AreLevels (net : Net) (level : ℕ → ℕ) : Type 0 where
  pub own : (u : ℕ) → weight (kind_of net u) ≤ level u
  pub over : (v u c : ℕ) → IsInstant net v u c → level v + weight (kind_of net u) ≤ level u
  pub least : (u : ℕ) → (level u ≡ weight (kind_of net u)) ⊎ ComesOver net level u

-- the level of the unit that the channel leaves and the weight of the unit that it enters are together at most the depth
abbrev pub is_low : ℕ → (ℕ → ℕ) → Net → Chan → Bool
is_low depth level net c = nat_le (level c.from.unit + weight (kind_of net c.to.unit)) depth

-- the delay of the class; where that is 0 and the channel is not low, 1
abbrev pub depth_delay : Timing → ℕ → (ℕ → ℕ) → Net → Chan → ℕ
depth_delay t depth level net c = cond (source_delay t net c == 0) (cond (is_low depth level net c) 0 1) (source_delay t net c)
