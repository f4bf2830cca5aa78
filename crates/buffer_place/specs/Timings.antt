-- How long units take: their classes, and the delays of their channels.
use Rattle.std.specs.Prelude.{◌≡◌, ℕ, ◌≤◌, ◌<◌, Option, Some, None}
use Rattle.el_base.specs.Limits.{max_slots, max_delay}
use Rattle.el_base.specs.declared.operation.Op2.{Op2}
use Rattle.el_base.specs.declared.operation.Op2.TheVariants as op2
use Rattle.net_types.specs.declared.net.Chan.{Chan}
use Rattle.net_types.specs.declared.net.Net.{Net}
use Rattle.net_types.specs.declared.net.Unit.{Unit as Kind}
use Rattle.net_types.specs.declared.net.Unit.TheVariants as kind
use Rattle.net_types.specs.Nets.{kind_of}
use Rattle.buffer_place.specs.declared.timing.Class.{Class}
use Rattle.buffer_place.specs.declared.timing.Class.TheVariants.{Logic, Mul, Div, Read, Lsq}
use Rattle.buffer_place.specs.declared.timing.Timing.{Timing}

-- multiplications, divisions with remainders, and all other operations
abbrev pub op2_class : Op2 → Class
op2_class op2.Add32 = Logic
op2_class op2.Add64 = Logic
op2_class op2.Sub32 = Logic
op2_class op2.Sub64 = Logic
op2_class op2.Mul32 = Mul
op2_class op2.Mul64 = Mul
op2_class op2.And32 = Logic
op2_class op2.And64 = Logic
op2_class op2.Or32 = Logic
op2_class op2.Or64 = Logic
op2_class op2.Xor32 = Logic
op2_class op2.Xor64 = Logic
op2_class op2.Shl32 = Logic
op2_class op2.Shl64 = Logic
op2_class op2.Shru32 = Logic
op2_class op2.Shru64 = Logic
op2_class op2.Shrs32 = Logic
op2_class op2.Shrs64 = Logic
op2_class op2.Divu32 = Div
op2_class op2.Divu64 = Div
op2_class op2.Remu32 = Div
op2_class op2.Remu64 = Div
op2_class op2.Divs32 = Div
op2_class op2.Divs64 = Div
op2_class op2.Rems32 = Div
op2_class op2.Rems64 = Div
op2_class op2.Eq32 = Logic
op2_class op2.Eq64 = Logic
op2_class op2.Ne32 = Logic
op2_class op2.Ne64 = Logic
op2_class op2.Ltu32 = Logic
op2_class op2.Ltu64 = Logic
op2_class op2.Leu32 = Logic
op2_class op2.Leu64 = Logic
op2_class op2.Lts32 = Logic
op2_class op2.Lts64 = Logic
op2_class op2.Les32 = Logic
op2_class op2.Les64 = Logic

-- the class of a unit; none of one that only steers tokens
abbrev pub class_of : Kind → Option Class
class_of kind.Entry = None
class_of (kind.Param j) = None
class_of (kind.Const w n) = None
class_of (kind.Op1 op) = Some Logic
class_of (kind.Op2 op) = Some (op2_class op)
class_of (kind.Select w) = Some Logic
class_of (kind.Fork w n) = None
class_of (kind.Mux w n) = None
class_of (kind.Cmerge n) = None
class_of (kind.Branch w) = None
class_of (kind.Sink w) = None
class_of (kind.Read a) = Some Read
class_of (kind.Lsq a d ps gs f) = Some Lsq
class_of kind.Exit = None

-- the delay of the channels out of a unit of the class
abbrev pub class_delay : Timing → Option Class → ℕ
class_delay t None = 0
class_delay t (Some Logic) = t.logic
class_delay t (Some Mul) = t.mul
class_delay t (Some Div) = t.div
class_delay t (Some Read) = t.read
class_delay t (Some Lsq) = t.lsq

-- the delay of the class of the unit that a channel comes from
abbrev pub source_delay : Timing → Net → Chan → ℕ
source_delay t net c = class_delay t (class_of (kind_of net c.from.unit))

-- delays and slots up to the most, a delay of queues of 1 and more, one slot and more, and a depth, if any, of 1 and more
pub record IsTiming (t : Timing) : Type 0 where
  pub logic : t.logic ≤ max_delay
  pub mul : t.mul ≤ max_delay
  pub div : t.div ≤ max_delay
  pub read : t.read ≤ max_delay
  pub lsq : t.lsq ≤ max_delay
  pub lsq_some : 0 < t.lsq
  pub slots : t.slots ≤ max_slots
  pub slots_some : 0 < t.slots
  pub depth_some : (d : ℕ) → t.depth ≡ Some d → 0 < d

-- what is taken where nothing is asked
abbrev pub usual : Timing
usual = record { logic = 0; mul = 4; div = 36; read = 2; lsq = 1; slots = 2; depth = None }
