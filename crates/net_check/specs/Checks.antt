-- What a checked net keeps: the eight rules, and what follows from them for each channel, place and unit.
use Rattle.std.specs.Prelude.{◌≡◌, ℕ, ◌<◌, Bool, true, Some, List, IsTrue, length}
use Rattle.el_base.specs.Limits.{IsNumbered}
use Rattle.net_types.specs.declared.net.Net.{Net}
use Rattle.net_types.specs.declared.net.Port.{Port}
use Rattle.net_types.specs.declared.net.Unit.{Unit as Kind}
use Rattle.net_types.specs.declared.net.Unit.TheVariants.{Lsq}
use Rattle.net_types.specs.Nets.{kind_of, chan_at, into, out_of, uses, owns}
use Rattle.net_types.specs.Tables.{ins, outs, InSpots}
use Rattle.net_types.specs.Rules.{KeepsC1, KeepsC2, width_fits}
use Rattle.net_check.specs.Headers.{KeepsC8, IsNamed, is_entry, is_exit, is_param}
use Rattle.net_check.specs.Shapes.{KeepsC7, HasShape}
use Rattle.net_check.specs.Sizes.{KeepsC3, IsSized}
use Rattle.net_check.specs.Cycles.{KeepsC4, IsDelayed}
use Rattle.net_check.specs.Controls.{KeepsC5, passes_control}
use Rattle.net_check.specs.Ends.{KeepsC6}

-- each end of a channel is a place of the table, of the channel's width and control; m says of each fork and branch
-- whether it passes control
pub record EndsFit (net : Net) (m : ℕ → Bool) : Type 0 where
  pub from : (c : ℕ) → c < length net.chans
      → InSpots (outs net (m (chan_at net c).from.unit) (kind_of net (chan_at net c).from.unit)) (chan_at net c).from.place (chan_at net c).width (chan_at net c).ctl
  pub to : (c : ℕ) → c < length net.chans
      → InSpots (ins net (m (chan_at net c).to.unit) (kind_of net (chan_at net c).to.unit)) (chan_at net c).to.place (chan_at net c).width (chan_at net c).ctl

-- the units at both ends of a channel are units of the net
pub record EndsWithin (net : Net) : Type 0 where
  pub from : (c : ℕ) → c < length net.chans → (chan_at net c).from.unit < length net.units
  pub to : (c : ℕ) → c < length net.chans → (chan_at net c).to.unit < length net.units

-- each place of the table has a channel, and not two
pub record EachOnce (net : Net) (m : ℕ → Bool) : Type 0 where
  pub into_each : (u p w : ℕ) (b : Bool) → u < length net.units → InSpots (ins net (m u) (kind_of net u)) p w b → into u p net.chans < length net.chans
  pub out_of_each : (u p w : ℕ) (b : Bool) → u < length net.units → InSpots (outs net (m u) (kind_of net u)) p w b → out_of u p net.chans < length net.chans
  pub one_in : (c d : ℕ) → c < length net.chans → d < length net.chans → (chan_at net c).to ≡ (chan_at net d).to → c ≡ d
  pub one_out : (c d : ℕ) → c < length net.chans → d < length net.chans → (chan_at net c).from ≡ (chan_at net d).from → c ≡ d

-- one unit of the net passes the test, and no other
pub record HasOne (q : Kind → Bool) (net : Net) : Type 0 where
  pub unit : ℕ
  pub within : unit < length net.units
  pub here : q (kind_of net unit) ≡ true
  pub only : (u : ℕ) → q (kind_of net u) ≡ true → u ≡ unit

-- units, channels, and each queue's ports and groups have numbers of 32 bits
pub record AllNumbered (net : Net) : Type 0 where
  pub units : IsNumbered (length net.units)
  pub chans : IsNumbered (length net.chans)
  pub ports : (u a d : ℕ) (ps : List Port) (gs : List (List ℕ)) (f : Bool) → kind_of net u ≡ Lsq a d ps gs f → IsNumbered (length ps)
  pub groups : (u a d : ℕ) (ps : List Port) (gs : List (List ℕ)) (f : Bool) → kind_of net u ≡ Lsq a d ps gs f → IsNumbered (length gs)

-- what is known of a net that keeps the eight rules
pub record IsChecked (net : Net) : Type 0 where
  -- the eight rules
  pub c1 : KeepsC1 net
  pub c2 : KeepsC2 net
  pub c3 : KeepsC3 net
  pub c4 : KeepsC4 net
  pub c5 : KeepsC5 net
  pub c6 : KeepsC6 net
  pub c7 : KeepsC7 net
  pub c8 : KeepsC8 net
  pub numbered : AllNumbered net
  -- channels and places
  pub fit : EndsFit net (passes_control net)
  pub within : EndsWithin net
  pub once : EachOnce net (passes_control net)
  pub to_own : (c : ℕ) → c < length net.chans → into (chan_at net c).to.unit (chan_at net c).to.place net.chans ≡ c
  pub from_own : (c : ℕ) → c < length net.chans → out_of (chan_at net c).from.unit (chan_at net c).from.place net.chans ≡ c
  pub sized : (c : ℕ) → c < length net.chans → IsSized (chan_at net c)
  pub delayed : (c : ℕ) → c < length net.chans → IsDelayed net (chan_at net c)
  -- units
  pub shapes : (u : ℕ) → HasShape (kind_of net u)
  pub named : (u : ℕ) → IsNamed net (kind_of net u)
  pub widths : (u : ℕ) → u < length net.units → IsTrue (width_fits (kind_of net u))
  pub one_entry : HasOne is_entry net
  pub one_exit : HasOne is_exit net
  pub one_param : (j : ℕ) → j < length net.scalars → HasOne (is_param j) net
  -- an array that a queue writes is used by no other unit
  pub alone : (u v a : ℕ) → owns (kind_of net u) ≡ Some a → uses (kind_of net v) ≡ Some a → v ≡ u
