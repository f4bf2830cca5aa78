-- Rule C5: which channels are control.
use Rattle.std.specs.Prelude.{◌≡◌, ℕ, ◌<◌, Bool, false, length}
use Rattle.std.specs.List.{All}
use Rattle.net_types.specs.declared.net.Net.{Net}
use Rattle.net_types.specs.declared.net.Unit.{Unit as Kind}
use Rattle.net_types.specs.declared.net.Unit.TheVariants.{Entry, Param, Const, Op1, Op2, Select, Fork, Mux, Cmerge, Branch, Sink, Read, Lsq, Exit}
use Rattle.net_types.specs.Nets.{kind_of, chan_at, into, out_of}
use Rattle.net_types.specs.Tables.{Spot, ins, outs}
use Rattle.net_check.specs.declared.refusal.At.{At}
use Rattle.net_check.specs.declared.refusal.At.TheVariants as «at»
use Rattle.net_check.specs.Lowest.{IsLowest}

-- is the channel at this input place, or at this output place, a control channel
abbrev pub ctl_in : Net → ℕ → ℕ → Bool
ctl_in net u p = (chan_at net (into u p net.chans)).ctl

abbrev pub ctl_out : Net → ℕ → ℕ → Bool
ctl_out net u p = (chan_at net (out_of u p net.chans)).ctl

-- does a unit of the kind pass control, by the marks of the channels into it: a fork where the channel into it is
-- control, a branch where the channel of its data is
abbrev pub passes : (ℕ → Bool) → Kind → Bool
passes f Entry = false
passes f (Param j) = false
passes f (Const w n) = false
passes f (Op1 op) = false
passes f (Op2 op) = false
passes f (Select w) = false
passes f (Fork w n) = f 0
passes f (Mux w n) = false
passes f (Cmerge n) = false
passes f (Branch w) = f 1
passes f (Sink w) = false
passes f (Read a) = false
passes f (Lsq a d ps gs mark) = false
passes f Exit = false

-- does the unit u pass control
abbrev pub passes_control : Net → ℕ → Bool
passes_control net u = passes (ctl_in net u) (kind_of net u)

-- the channels at the places of the unit u are control where the table says so of a unit that passes what this one does
pub record PlacesMarked (net : Net) (u : ℕ) : Type 0 where
  pub ins : All (λ (s : Spot). ctl_in net u s.place ≡ s.ctl) (ins net (passes_control net u) (kind_of net u))
  pub outs : All (λ (s : Spot). ctl_out net u s.place ≡ s.ctl) (outs net (passes_control net u) (kind_of net u))

pub record IsUnmarked (net : Net) (u : ℕ) : Type 0 where
  pub within : u < length net.units
  pub lacks : PlacesMarked net u → ⊥

-- C5: so at each unit
pub record KeepsC5 (net : Net) : Type 0 where
  pub units : (u : ℕ) → u < length net.units → PlacesMarked net u

-- the culprit: the lowest unit at which it fails
abbrev pub CulpritC5 : Net → At → Type 0
CulpritC5 net (at.Unit u) = IsLowest (IsUnmarked net) u
CulpritC5 net (at.Chan c) = ⊥
CulpritC5 net at.Net = ⊥
