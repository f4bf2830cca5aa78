-- The rooms of a state that one worker keeps.
use Rattle.std.specs.Prelude.{◌≡◌, ℕ, ◌<◌, true, List, [], ◌∷◌, length, get_or, map}
use Rattle.std.specs.declared.alloc.Global.{Global}
use Rattle.std.specs.declared.vec.Vec.{Vec}
use Rattle.std.proofs.Common.{sym, ◌∙◌}
use Rattle.net_types.specs.declared.firing.Inputs.{Inputs}
use Rattle.net_types.specs.declared.net.Net.{Net}
use Rattle.net_types.specs.Nets.{chan_at, into, kind_of, owns}
use Rattle.net_core.specs.declared.cell.Cell.{Cell}
use Rattle.net_core.specs.declared.cell.Cell.TheVariants.{Plain}
use Rattle.net_core.specs.declared.state.State.{State as Stored}
use Rattle.net_core.specs.Fire.{at_array, opened}
use Rattle.net_core.specs.Held.{Held, Lane, lane}
use Rattle.net_core.specs.Plans.{IsShaped, keeps, own_of}
use Rattle.net_worker.specs.ChannelEnds.{AreChannels, StandsAt, put_over, length-put_over}
use Rattle.net_worker.specs.declared.places.Places.{Places}

-- A whole state, in which what is not here is as in the opening state; the units and the channels that are here, ascending; and the
-- places at which units and channels stand among those of their workers.
pub record PortionView : Type 0 where
  pub state : Stored
  pub units : List ℕ
  pub chans : List ℕ
  pub places : Places

-- the unit is here; the channel is here, as one from a unit that is here, and as one to such a unit
abbrev pub IsUnitHere : PortionView → ℕ → Type 0
IsUnitHere p u = (u < length p.places.units.items) × StandsAt p.units u (get_or p.places.units.items u 0)

abbrev pub IsOutHere : PortionView → ℕ → Type 0
IsOutHere p c = (c < length p.places.outs.items) × StandsAt p.chans c (get_or p.places.outs.items c 0)

abbrev pub IsInHere : PortionView → ℕ → Type 0
IsInHere p c = (c < length p.places.ins.items) × StandsAt p.chans c (get_or p.places.ins.items c 0)

-- the unit is here with all channels at it
pub record HasPins (net : Net) (p : PortionView) (u : ℕ) : Type 0 where
  pub unit : IsUnitHere p u
  pub outs : (c : ℕ) → c < length net.chans → (chan_at net c).from.unit ≡ u → IsOutHere p c
  pub ins : (c : ℕ) → c < length net.chans → (chan_at net c).to.unit ≡ u → IsInHere p c

-- the channel into each input place of the unit is here, where there is one
abbrev pub HasIns : Net → PortionView → ℕ → Type 0
HasIns net p u = (place : ℕ) → into u place net.chans < length p.state.tokens.tokens → IsInHere p (into u place net.chans)

-- each of these channels is here, as one to a unit that is here
abbrev pub AreInsHere : PortionView → List ℕ → Type 0
AreInsHere p [] = Unit {0}
AreInsHere p (c ∷ cs) = IsInHere p c × AreInsHere p cs

-- all but the tokens stays
pub record SameButTokens (s t : Stored) : Type 0 where
  pub scalars : t.scalars ≡ s.scalars
  pub slots : t.tokens.slots ≡ s.tokens.slots
  pub cells : t.cells ≡ s.cells
  pub homes : t.homes ≡ s.homes
  pub strays : t.strays ≡ s.strays
  pub exit : t.exit ≡ s.exit

-- the same is here
pub record SameHere (p q : PortionView) : Type 0 where
  pub units : q.units ≡ p.units
  pub chans : q.chans ≡ p.chans
  pub places : q.places ≡ p.places

-- ---- what a whole state is made of

-- tokens, slots and dates with those of these channels
abbrev pub held_over : List ℕ → List Lane → Held → Held
held_over cs ls h = record {
  tokens = put_over cs (map (λ l. l.tokens) ls) h.tokens;
  slots = put_over cs (map (λ l. l.slots) ls) h.slots;
  dates = put_over cs (map (λ l. l.dates) ls) h.dates;
}

-- what units keep, with these cells for these units
abbrev pub cells_over : List ℕ → List Cell → Vec Cell Global → Vec Cell Global
cells_over us cells all = record all { items = put_over us cells all.items; ok = (all.ok.0 ∙ sym (length-put_over us cells all.items), all.ok.1) }

-- a state with the rooms of these units and channels, and these counts of strays
abbrev pub with_rooms : List ℕ → List Cell → List ℕ → List Lane → Vec ℕ Global → Stored → Stored
with_rooms us cells cs ls strays s = record s {
  tokens = held_over cs ls s.tokens;
  cells = cells_over us cells s.cells;
  strays = strays;
}

-- what a clause sees of these rooms in a state
abbrev pub portion_of : List ℕ → List Cell → List ℕ → List Lane → Vec ℕ Global → Stored → Places → PortionView
portion_of us cells cs ls strays s p = record { state = with_rooms us cells cs ls strays s; units = us; chans = cs; places = p }

-- the units and channels of the parts ascend and are those of the state, and each has its room; each channel of the state has two places
pub record ArePortion (s : Stored) (p : Places) (us : List ℕ) (cells : List Cell) (cs : List ℕ) (ls : List Lane) : Type 0 where
  pub units : AreChannels (length s.cells.items) us
  pub cells_long : length cells ≡ length us
  pub chans : AreChannels (length s.tokens.tokens) cs
  pub channels_long : length ls ≡ length cs
  pub outs_long : length p.outs.items ≡ length s.tokens.tokens
  pub ins_long : length p.ins.items ≡ length s.tokens.tokens

-- ---- rooms at first

-- the cell of a unit of the net in the opening state
pub record IsFirstCell (net : Net) (inputs : Inputs) (u : ℕ) (c : Cell) : Type 0 where
  pub own : own_of c ≡ opened (kind_of net u)
  pub kept : keeps (kind_of net u) c ≡ true
  pub shaped : IsShaped (kind_of net u) c (at_array inputs.arrays (owns (kind_of net u)))

-- so of each of these units
pub record AreFirstCells (net : Net) (inputs : Inputs) (us : List ℕ) (cells : List Cell) : Type 0 where
  pub long : length cells ≡ length us
  pub each : (i : ℕ) → i < length us → IsFirstCell net inputs (get_or us i 0) (get_or cells i Plain)

-- these channels of the net without tokens
abbrev pub first_lanes : Net → List ℕ → List Lane
first_lanes net cs = map (λ c. lane [] [] (chan_at net c).slots) cs
