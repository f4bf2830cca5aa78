-- Rules of nets: C1, every place has one channel, and C2, widths agree.
use Rattle.std.specs.Prelude.{◌≡◌, ◌⊎◌, ℕ, suc, ◌^◌, ◌==◌, nat_lt, ◌&&◌, ◌||◌, Bool, true, false, IsTrue, List, [], ◌∷◌, ◌++◌, map, count_by}
use Rattle.std.specs.List.{All}
use Rattle.net_types.specs.declared.net.Place.{Place}
use Rattle.net_types.specs.declared.net.Chan.{Chan}
use Rattle.net_types.specs.declared.net.Net.{Net}
use Rattle.net_types.specs.declared.net.Unit.{Unit as Kind}
use Rattle.net_types.specs.declared.net.Unit.TheVariants.{Entry, Param, Const, Op1, Op2, Select, Fork, Mux, Cmerge, Branch, Sink, Read, Lsq, Exit}
use Rattle.net_types.specs.Nets.{is_at, at, kind_of}
use Rattle.net_types.specs.Tables.{Spot, ins, outs}

-- the places of the unit u, from its row of the table
abbrev pub places_at : ℕ → List Spot → List Place
places_at u ss = map (λ (s : Spot). at u s.place) ss

-- all input places of units numbered from u on, and all output places: each place once, in order
abbrev pub in_places_from : Net → ℕ → List Kind → List Place
in_places_from net u [] = []
in_places_from net u (k ∷ ks) = places_at u (ins net false k) ++ in_places_from net (suc u) ks

abbrev pub out_places_from : Net → ℕ → List Kind → List Place
out_places_from net u [] = []
out_places_from net u (k ∷ ks) = places_at u (outs net false k) ++ out_places_from net (suc u) ks

abbrev pub in_places : Net → List Place
in_places net = in_places_from net 0 net.units

abbrev pub out_places : Net → List Place
out_places net = out_places_from net 0 net.units

-- how often the place p of the unit u stands in a list
abbrev pub times_in : List Place → ℕ → ℕ → ℕ
times_in places u p = count_by (λ q. is_at q u p) places

-- C1: each end of a channel is a place that exists, and each place has exactly one channel:
-- a place is the end of as many channels as the table has places of its number, which is one or none
pub record KeepsC1 (net : Net) : Type 0 where
  pub into_each : (u p : ℕ) → times_in (map (λ (c : Chan). c.to) net.chans) u p ≡ times_in (in_places net) u p
  pub out_of_each : (u p : ℕ) → times_in (map (λ (c : Chan). c.from) net.chans) u p ≡ times_in (out_places net) u p

abbrev pub is_width : ℕ → Bool
is_width w = (w == 8) || (w == 16) || (w == 32) || (w == 64)

-- the width that a unit names is one of 8, 16, 32 and 64, and its constant is a pattern of that width
abbrev pub width_fits : Kind → Bool
width_fits Entry = true
width_fits (Param j) = true
width_fits (Const w n) = is_width w && nat_lt n (2 ^ w)
width_fits (Op1 op) = true
width_fits (Op2 op) = true
width_fits (Select w) = is_width w
width_fits (Fork w n) = is_width w
width_fits (Mux w n) = is_width w
width_fits (Cmerge n) = true
width_fits (Branch w) = is_width w
width_fits (Sink w) = is_width w
width_fits (Read a) = true
width_fits (Lsq a d ps gs f) = true
width_fits Exit = true

-- a place of this number and width is in a row of the table
abbrev pub HasWidth : List Spot → ℕ → ℕ → Type 0
HasWidth [] p w = ⊥
HasWidth (s ∷ ss) p w = ((s.place ≡ p) × (s.width ≡ w)) ⊎ HasWidth ss p w

-- a channel's width is that of both its places
pub record IsOfWidth (net : Net) (c : Chan) : Type 0 where
  pub source : HasWidth (outs net false (kind_of net c.from.unit)) c.from.place c.width
  pub target : HasWidth (ins net false (kind_of net c.to.unit)) c.to.place c.width

-- C2: all widths of units are 8, 16, 32 or 64 and a constant is below 2 ^ width; a channel's width is that of both its places
pub record KeepsC2 (net : Net) : Type 0 where
  pub units : All (λ k. IsTrue (width_fits k)) net.units
  pub chans : All (IsOfWidth net) net.chans
