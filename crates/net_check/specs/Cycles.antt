-- Rule C4: channels of delay 0.
use Rattle.std.specs.Prelude.{◌≡◌, ℕ, ◌<◌, Bool, true, List, [], ◌∷◌, length}
use Rattle.std.specs.List.{All}
use Rattle.net_types.specs.declared.net.Chan.{Chan}
use Rattle.net_types.specs.declared.net.Net.{Net}
use Rattle.net_types.specs.declared.net.Unit.{Unit as Kind}
use Rattle.net_types.specs.declared.net.Unit.TheVariants.{Entry, Param, Const, Op1, Op2, Select, Fork, Mux, Cmerge, Branch, Sink, Read, Lsq, Exit}
use Rattle.net_types.specs.Nets.{kind_of, chan_at}
use Rattle.net_check.specs.declared.refusal.At.{At}
use Rattle.net_check.specs.declared.refusal.At.TheVariants as «at»
use Rattle.net_check.specs.Lowest.{IsLowest, ChanLacks}

-- a delay of 1 and more, where the unit is a queue
abbrev pub WaitsAfter : Kind → ℕ → Type 0
WaitsAfter Entry delay = Unit {0}
WaitsAfter (Param j) delay = Unit {0}
WaitsAfter (Const w n) delay = Unit {0}
WaitsAfter (Op1 op) delay = Unit {0}
WaitsAfter (Op2 op) delay = Unit {0}
WaitsAfter (Select w) delay = Unit {0}
WaitsAfter (Fork w n) delay = Unit {0}
WaitsAfter (Mux w n) delay = Unit {0}
WaitsAfter (Cmerge n) delay = Unit {0}
WaitsAfter (Branch w) delay = Unit {0}
WaitsAfter (Sink w) delay = Unit {0}
WaitsAfter (Read a) delay = Unit {0}
WaitsAfter (Lsq a d ps gs f) delay = 0 < delay
WaitsAfter Exit delay = Unit {0}

abbrev pub IsDelayed : Net → Chan → Type 0
IsDelayed net c = WaitsAfter (kind_of net c.from.unit) c.delay

-- the channel c has delay 0 and goes from the unit v to the unit u
pub record IsInstant (net : Net) (v u c : ℕ) : Type 0 where
  pub within : c < length net.chans
  pub delay : (chan_at net c).delay ≡ 0
  pub source : (chan_at net c).from.unit ≡ v
  pub target : (chan_at net c).to.unit ≡ u

-- the channels of these numbers have delay 0 and lead from the unit v to the unit u: the first goes out of v, each
-- other out of the unit that the one before it goes into, and the last into u
abbrev pub Leads : Net → ℕ → List ℕ → ℕ → Type 0
Leads net v [] u = v ≡ u
Leads net v (c ∷ cs) u = IsInstant net v (chan_at net c).to.unit c × Leads net (chan_at net c).to.unit cs u

-- a cycle of channels of delay 0: there is one at least, and they lead from a unit to itself
pub record IsClosedWalk (net : Net) (cs : List ℕ) : Type 0 where
  pub unit : ℕ
  pub some : 0 < length cs
  pub leads : Leads net unit cs unit

-- C4: each channel out of a queue has a delay of 1 and more, and no cycle consists of channels of delay 0
pub record KeepsC4 (net : Net) : Type 0 where
  pub queues : All (IsDelayed net) net.chans
  pub cycles : (cs : List ℕ) → IsClosedWalk net cs → ⊥

-- from the unit u, channels of delay 0 can be walked backward without end: u is in a set of units
-- each of which has such a channel from a unit of the set
pub record IsEndless (net : Net) (u : ℕ) : Type 0 where
  pub set : ℕ → Bool
  pub here : set u ≡ true
  pub back : (w : ℕ) → set w ≡ true → (v : ℕ) × ((set v ≡ true) × ((c : ℕ) × IsInstant net v w c))

-- the culprit: the lowest channel of delay 0 out of a queue, else the lowest unit from which one can walk without end
abbrev pub CulpritC4 : Net → At → Type 0
CulpritC4 net (at.Chan c) = IsLowest (ChanLacks net (IsDelayed net)) c
CulpritC4 net (at.Unit u) = ((c : ℕ) → ChanLacks net (IsDelayed net) c → ⊥) × IsLowest (IsEndless net) u
CulpritC4 net at.Net = ⊥
