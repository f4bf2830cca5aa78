-- Private: only contracts of this crate cite it. The channel on which the last control token to a control merge or a queue was put.
use Rattle.std.specs.Prelude.{◌≡◌, ℕ, suc, ◌<◌, ◌==◌, ◌&&◌, nat_le, nat_lt, Bool, cond, Option, Some, None, length}
use Rattle.net_types.specs.declared.net.Net.{Net}
use Rattle.net_types.specs.declared.net.Unit.{Unit as Kind}
use Rattle.net_types.specs.declared.net.Unit.TheVariants.{Entry, Param, Const, Op1, Op2, Select, Fork, Mux, Cmerge, Branch, Sink, Read, Lsq, Exit}
use Rattle.net_types.specs.Nets.{into, kind_of, chan_at}
use Rattle.net_core.specs.declared.plan.Laid.{Laid}
use Rattle.net_core.specs.Fire.{State, head_at}

-- the groups of a queue
abbrev pub groups_in : Kind → ℕ
groups_in Entry = 0
groups_in (Param j) = 0
groups_in (Const w n) = 0
groups_in (Op1 op) = 0
groups_in (Op2 op) = 0
groups_in (Select w) = 0
groups_in (Fork w outs) = 0
groups_in (Mux w ins) = 0
groups_in (Cmerge ins) = 0
groups_in (Branch w) = 0
groups_in (Sink w) = 0
groups_in (Read a) = 0
groups_in (Lsq a d ps gs f) = length gs
groups_in Exit = 0

-- the ports of a queue
abbrev pub ports_in : Kind → ℕ
ports_in Entry = 0
ports_in (Param j) = 0
ports_in (Const w n) = 0
ports_in (Op1 op) = 0
ports_in (Op2 op) = 0
ports_in (Select w) = 0
ports_in (Fork w outs) = 0
ports_in (Mux w ins) = 0
ports_in (Cmerge ins) = 0
ports_in (Branch w) = 0
ports_in (Sink w) = 0
ports_in (Read a) = 0
ports_in (Lsq a d ps gs f) = length ps
ports_in Exit = 0

-- how many control places a unit has whose tokens are taken by acts with a place each: the inputs of a control merge, and the groups and
-- the end of a queue
abbrev pub control_places_in : Kind → ℕ
control_places_in Entry = 0
control_places_in (Param j) = 0
control_places_in (Const w n) = 0
control_places_in (Op1 op) = 0
control_places_in (Op2 op) = 0
control_places_in (Select w) = 0
control_places_in (Fork w outs) = 0
control_places_in (Mux w ins) = 0
control_places_in (Cmerge ins) = ins
control_places_in (Branch w) = 0
control_places_in (Sink w) = 0
control_places_in (Read a) = 0
control_places_in (Lsq a d ps gs f) = suc (length gs)
control_places_in Exit = 0

-- does a channel lead control to a control place of these
abbrev pub leads_to_control_place : Net → ℕ → Bool
leads_to_control_place net d = (chan_at net d).ctl && nat_lt (chan_at net d).to.place (control_places_in (kind_of net (chan_at net d).to.unit))

-- the channel that is noted after a token was put
abbrev pub control_after : Net → Option Laid → ℕ → ℕ
control_after net None noted = noted
control_after net (Some w) noted = cond (leads_to_control_place net w.chan) w.chan noted

-- the place of the unit u to which a channel leads control
abbrev pub noted_place : Net → ℕ → ℕ → Option ℕ
noted_place net d u = cond (leads_to_control_place net d && ((chan_at net d).to.unit == u)) (Some (chan_at net d).to.place) None

-- a place, where it is from a number on
abbrev pub place_from : Option ℕ → ℕ → Option ℕ
place_from None from = None
place_from (Some p) from = cond (nat_le from p) (Some p) None

-- the number, where the place is that of the queue's end
abbrev pub end_from : Option ℕ → ℕ → ℕ → Option ℕ
end_from None end from = None
end_from (Some p) end from = cond (p == end) (Some from) None

-- a token at a control place of these is on the channel that is noted
abbrev pub HasControl : Net → State → ℕ → Type 0
HasControl net s noted = (u p v : ℕ) → p < control_places_in (kind_of net u) → head_at net s u p ≡ Some v → into u p net.chans ≡ noted

-- a channel goes into none of so many places of the unit u
abbrev pub GoesIntoNone : Net → ℕ → ℕ → ℕ → Type 0
GoesIntoNone net d u ins = (p : ℕ) → p < ins → into u p net.chans < length net.chans → into u p net.chans ≡ d → ⊥
