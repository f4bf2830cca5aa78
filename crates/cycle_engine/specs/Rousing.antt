-- What a firing makes possible in its cycle, and what the next cycle does: all that a list of places that may fire has to be told.
use Rattle.std.specs.Prelude.{◌≡◌, ◌≢◌, ◌⊎◌, ℕ, suc, ◌≤◌, true, Some, [], length, get_or, IsSomeAnd}
use Rattle.std.specs.List.{AllByRecursion}
use Rattle.net_types.specs.declared.net.Net.{Net}
use Rattle.net_types.specs.declared.net.Unit.{Unit as Kind}
use Rattle.net_types.specs.declared.net.Unit.TheVariants.{Entry, Param, Const, Op1, Op2, Select, Fork, Mux, Cmerge, Branch, Sink, Read, Lsq, Exit}
use Rattle.net_types.specs.declared.firing.Act.{Act}
use Rattle.net_types.specs.declared.firing.Firing.{Firing}
use Rattle.net_types.specs.Nets.{into, out_of, kind_of, chan_at, firing}
use Rattle.net_check.specs.Checks.{IsChecked}
use Rattle.net_core.specs.Fire.{Effect, idle, effect, has_room, tokens_at, takes_from}
use Rattle.lsq_core.specs.Laws.{act_place}
use Rattle.cycle_engine.specs.Cycles.{Dated, May, IsRipe, HasDepth, after_in, AreDated}
use Rattle.net_core.specs.Uses.{used}

-- the effect of the unit v puts on a channel of delay 0 into the unit u
abbrev pub GoesTo : Net → ℕ → Effect → ℕ → Type 0
GoesTo net v e u = IsSomeAnd e.put (λ w.
    ((chan_at net (out_of v w.place net.chans)).delay ≡ 0) × ((chan_at net (out_of v w.place net.chans)).to.unit ≡ u))

-- the effect of the unit v takes from the channel on which the firing g would put
abbrev pub ComesFrom : Net → ℕ → Effect → Dated → Firing → Type 0
ComesFrom net v e s g = IsSomeAnd (effect net s.state g) (λ x. IsSomeAnd x.put (λ w. takes_from net v e (out_of g.unit w.place net.chans) ≡ true))

-- what may be made after a firing f of the cycle c could be made before it, or is of f's own unit, or of the unit at the other end of
-- the channel of delay 0 on which f put, or puts on a channel from which f took
abbrev pub Rouses : Type 0
Rouses = (net : Net) (c : ℕ) (start s : Dated) (f g : Firing) (e : Effect) → IsChecked net → AreDated net s → effect net s.state f ≡ Some e
    → May net c start (after_in net c s f) g
    → May net c start s g ⊎ ((g.unit ≡ f.unit) ⊎ (GoesTo net f.unit e g.unit ⊎ ComesFrom net f.unit e s g))

-- the last send of a fork, which takes the head, and each act of a queue may make possible what another place of the unit does
abbrev pub Stirs : Kind → Effect → Type 0
Stirs Entry e = ⊥
Stirs (Param j) e = ⊥
Stirs (Const w n) e = ⊥
Stirs (Op1 op) e = ⊥
Stirs (Op2 op) e = ⊥
Stirs (Select w) e = ⊥
Stirs (Fork w outs) e = e.takes ≢ []
Stirs (Mux w ins) e = ⊥
Stirs (Cmerge ins) e = ⊥
Stirs (Branch w) e = ⊥
Stirs (Sink w) e = ⊥
Stirs (Read a) e = ⊥
Stirs (Lsq a depth ports groups forward) e = Unit {0}
Stirs Exit e = ⊥

-- what another place of the unit may do after a firing it could do before it, but where the firing stirs the unit, or put into it at once
abbrev pub OwnRouses : Type 0
OwnRouses = (net : Net) (c : ℕ) (start s : Dated) (u : ℕ) (a b : Act) (e : Effect) → AreDated net s → effect net s.state (firing u a) ≡ Some e → act_place b ≢ act_place a
    → May net c start (after_in net c s (firing u a)) (firing u b)
    → May net c start s (firing u b) ⊎ (Stirs (kind_of net u) e ⊎ GoesTo net u e u)

-- as May, but that the room at the firing's turn is left aside
pub record Could (net : Net) (c : ℕ) (start s : Dated) (f : Firing) : Type 0 where
  pub acts : IsSomeAnd (effect net s.state f) (λ e. has_room net start.state f.unit e.put)
  pub ripe : AllByRecursion (λ p. IsRipe net c s (into f.unit p net.chans)) (used net s.state f)
  pub depth : HasDepth (kind_of net f.unit) (get_or start.state.own f.unit idle) f.act

-- what could be made as the next cycle begins, with t, could be made at the end of the cycle c, which began with s, where the channels
-- on which it puts hold no fewer tokens than then, its heads do not come to be ripe only now, and its queue got no free depth
abbrev pub NextRouses : Type 0
NextRouses = (net : Net) (c : ℕ) (s t : Dated) (f : Firing)
    → ((p : ℕ) → length (tokens_at s.state (out_of f.unit p net.chans)) ≤ length (tokens_at t.state (out_of f.unit p net.chans)))
    → ((p : ℕ) → IsRipe net (suc c) t (into f.unit p net.chans) → IsRipe net c t (into f.unit p net.chans))
    → (HasDepth (kind_of net f.unit) (get_or t.state.own f.unit idle) f.act → HasDepth (kind_of net f.unit) (get_or s.state.own f.unit idle) f.act)
    → Could net (suc c) t t f → Could net c s t f
