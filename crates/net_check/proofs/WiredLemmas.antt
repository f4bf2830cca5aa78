-- What rule C1 says of each channel and of each place.
use Rattle.std.proofs.Common.{◌≡◌, ℕ, zero, suc, ◌+◌, ◌<◌, ◌≤◌, Bool, true, false, cond, List, [], ◌∷◌, length, get_or, refl, sym, ap, subst, ◌∙◌, arith}
use Rattle.std.specs.List.{All}
use Rattle.std.proofs.lemmas.List.Sums.{sum_by-cons}
use Rattle.net_types.specs.declared.net.Chan.{Chan}
use Rattle.net_types.specs.declared.net.Place.{Place}
use Rattle.net_types.specs.declared.net.Net.{Net}
use Rattle.net_types.specs.declared.net.Unit.{Unit as Kind}
use Rattle.net_types.specs.Nets.{is_at, nowhere, chan_at, kind_of, into, out_of}
use Rattle.net_types.specs.Tables.{ins, outs}
use Rattle.net_types.specs.Rules.{KeepsC1, HasWidth}
use Rattle.net_check.specs.declared.wires.Side.{Side}
use Rattle.net_check.specs.declared.wires.Side.TheVariants.{In, Out}
use Rattle.net_check.specs.Places.{HasEnds}
use Rattle.net_check.specs.private.Wires.{end_of, first_at, starts_from, Inside, AreInside}
use Rattle.net_check.specs.private.Joins.{ended, placed, row, AreJoined}
use Rattle.net_check.proofs.RowLemmas.{Rises, rises-in, rises-out, has-width}
use Rattle.net_check.proofs.FirstLemmas.{all_chans}
use Rattle.net_check.proofs.Tables.{first-cons, starts_next}
use Rattle.net_check.proofs.PlaceCounts.{one, count_map, placed_at, placed_most, placed_within, placed_below}
use Rattle.net_check.proofs.JoinLemmas.{at_itself, ended_some}

-- the ends of channels are the places, on both sides
pub joined_of : (side : Side) (net : Net) → KeepsC1 net → AreJoined side net
joined_of In net k = record { each = λ u p. sym (count_map (λ (c : Chan). c.to) (λ q. is_at q u p) net.chans) ∙ k.into_each u p }
joined_of Out net k = record { each = λ u p. sym (count_map (λ (c : Chan). c.from) (λ q. is_at q u p) net.chans) ∙ k.out_of_each u p }

pub own_place : (side : Side) (net : Net) (c : ℕ) → KeepsC1 net → c < length net.chans → 0 < placed side net (end_of side (chan_at net c)).unit (end_of side (chan_at net c)).place
own_place side net c k l =
    let a = ended_some side net.chans c l in
    let j = joined_of side net k in
    let b = j.each (end_of side (chan_at net c)).unit (end_of side (chan_at net c)).place in
    omega arith

-- both ends of a channel are at units of the net
pub from_within : (net : Net) (c : ℕ) → KeepsC1 net → c < length net.chans → (chan_at net c).from.unit < length net.units
from_within net c k l = placed_within Out net (chan_at net c).from.unit (chan_at net c).from.place (own_place Out net c k l)

pub to_within : (net : Net) (c : ℕ) → KeepsC1 net → c < length net.chans → (chan_at net c).to.unit < length net.units
to_within net c k l = placed_within In net (chan_at net c).to.unit (chan_at net c).to.place (own_place In net c k l)

-- in a net that keeps the rule, channels end at places
pub ends_kept : (net : Net) → KeepsC1 net → All (HasEnds net) net.chans
ends_kept net k = all_chans net (HasEnds net) (λ c l. record { from = own_place Out net c k l; to = own_place In net c k l })

end_placed : (side : Side) (net : Net) (c : ℕ) → All (HasEnds net) net.chans → c < length net.chans → 0 < placed side net (end_of side (chan_at net c)).unit (end_of side (chan_at net c)).place
end_placed In net c a l = (a c nowhere l).to
end_placed Out net c a l = (a c nowhere l).from

-- then each channel ends at a place that has an entry
pub all_inside : (side : Side) (net : Net) (starts : List ℕ) (cs : List Chan) → All (HasEnds net) net.chans → starts ≡ starts_from side 0 net.units → cs ≡ net.chans → AreInside side starts cs
all_inside side net starts cs k e f =
    let P : List Chan → Type 0 = λ xs. AreInside side starts xs in
    let Q : List ℕ → Type 0 = λ xs. AreInside side xs net.chans in
    subst P (sym f) (subst Q (sym e) (record { each = entry }))
  where
    entry : (c : ℕ) → c < length net.chans → Inside (starts_from side 0 net.units) (end_of side (chan_at net c)).unit (end_of side (chan_at net c)).place
    entry c l =
        let x : Place = end_of side (chan_at net c) in
        let h = end_placed side net c k l in
        let w = placed_within side net x.unit x.place h in
        let b = placed_below side net x.unit x.place h in
        let n = starts_next side 0 net.units x.unit w in
        omega arith

-- where a channel ends, one is found
first_within : (side : Side) (u p : ℕ) (cs : List Chan) → 0 < ended side cs u p → first_at side u p cs < length cs
first_within side u p [] h = absurd (omega arith)
first_within side u p (c ∷ cs) h = by (is_at (end_of side c) u p) refl (first_within side u p cs)
  where
    s : ended side (c ∷ cs) u p ≡ cond (is_at (end_of side c) u p) 1 0 + ended side cs u p
    s = sum_by-cons (λ (x : Chan). cond (is_at (end_of side x) u p) 1 0) c cs

    by : (b : Bool) → is_at (end_of side c) u p ≡ b → (0 < ended side cs u p → first_at side u p cs < length cs) → first_at side u p (c ∷ cs) < length (c ∷ cs)
    by true b rest =
        let f : first_at side u p (c ∷ cs) ≡ 0 = first-cons side u p c cs ∙ ap (λ x. cond x 0 (suc (first_at side u p cs))) b in
        omega arith
    by false b rest =
        let f : first_at side u p (c ∷ cs) ≡ suc (first_at side u p cs) = first-cons side u p c cs ∙ ap (λ x. cond x 0 (suc (first_at side u p cs))) b in
        let e : ended side (c ∷ cs) u p ≡ 0 + ended side cs u p = s ∙ ap (λ x. cond x 1 0 + ended side cs u p) b in
        let r = rest (omega arith) in
        omega arith

-- where two channels do not end, the one that does is found
ended_at : (side : Side) (u p : ℕ) (cs : List Chan) (c : ℕ) → c < length cs → is_at (end_of side (get_or cs c nowhere)) u p ≡ true → 0 < ended side cs u p
ended_at side u p [] c l t = absurd (omega arith)
ended_at side u p (x ∷ cs) zero l t =
    let s : ended side (x ∷ cs) u p ≡ 1 + ended side cs u p = sum_by-cons (λ (y : Chan). cond (is_at (end_of side y) u p) 1 0) x cs ∙ ap (λ b. cond b 1 0 + ended side cs u p) t in
    omega arith
ended_at side u p (x ∷ cs) (suc c) l t =
    let r = ended_at side u p cs c (omega arith) t in
    let s = sum_by-cons (λ (y : Chan). cond (is_at (end_of side y) u p) 1 0) x cs in
    omega arith

first_own : (side : Side) (u p : ℕ) (cs : List Chan) (c : ℕ) → c < length cs → is_at (end_of side (get_or cs c nowhere)) u p ≡ true → ended side cs u p ≤ 1 → first_at side u p cs ≡ c
first_own side u p [] c l t m = absurd (omega arith)
first_own side u p (x ∷ cs) zero l t m = first-cons side u p x cs ∙ ap (λ b. cond b 0 (suc (first_at side u p cs))) t
first_own side u p (x ∷ cs) (suc c) l t m = by (is_at (end_of side x) u p) refl (first_own side u p cs c (omega arith) t) (ended_at side u p cs c (omega arith) t)
  where
    s : ended side (x ∷ cs) u p ≡ cond (is_at (end_of side x) u p) 1 0 + ended side cs u p
    s = sum_by-cons (λ (y : Chan). cond (is_at (end_of side y) u p) 1 0) x cs

    by : (b : Bool) → is_at (end_of side x) u p ≡ b → (ended side cs u p ≤ 1 → first_at side u p cs ≡ c) → 0 < ended side cs u p → first_at side u p (x ∷ cs) ≡ suc c
    by true b rest some =
        let e : ended side (x ∷ cs) u p ≡ 1 + ended side cs u p = s ∙ ap (λ y. cond y 1 0 + ended side cs u p) b in
        absurd (omega arith)
    by false b rest some =
        let f : first_at side u p (x ∷ cs) ≡ suc (first_at side u p cs) = first-cons side u p x cs ∙ ap (λ y. cond y 0 (suc (first_at side u p cs))) b in
        let e : ended side (x ∷ cs) u p ≡ 0 + ended side cs u p = s ∙ ap (λ y. cond y 1 0 + ended side cs u p) b in
        let r = rest (omega arith) in
        omega arith

-- each channel is the one at its ends
own : (side : Side) (net : Net) (c : ℕ) → KeepsC1 net → c < length net.chans → first_at side (end_of side (chan_at net c)).unit (end_of side (chan_at net c)).place net.chans ≡ c
own side net c k l =
    let j = joined_of side net k in
    let a = j.each (end_of side (chan_at net c)).unit (end_of side (chan_at net c)).place in
    let b = placed_most side net (end_of side (chan_at net c)).unit (end_of side (chan_at net c)).place in
    first_own side (end_of side (chan_at net c)).unit (end_of side (chan_at net c)).place net.chans c l (at_itself (end_of side (chan_at net c))) (omega arith)

pub to_own : (net : Net) (c : ℕ) → KeepsC1 net → c < length net.chans → into (chan_at net c).to.unit (chan_at net c).to.place net.chans ≡ c
to_own net c k l = own In net c k l

pub from_own : (net : Net) (c : ℕ) → KeepsC1 net → c < length net.chans → out_of (chan_at net c).from.unit (chan_at net c).from.place net.chans ≡ c
from_own net c k l = own Out net c k l

-- each place has a channel
rises-row : (side : Side) (net : Net) (k : Kind) → Rises 0 (row side net k)
rises-row In net k = rises-in net k
rises-row Out net k = rises-out net k

pub has_place : (side : Side) (net : Net) (u p w : ℕ) → u < length net.units → HasWidth (row side net (kind_of net u)) p w → placed side net u p ≡ 1
has_place side net u p w l h = placed_at side net u p l ∙ ap one (has-width 0 (row side net (kind_of net u)) p w (rises-row side net (kind_of net u)) h)

each : (side : Side) (net : Net) (u p w : ℕ) → KeepsC1 net → u < length net.units → HasWidth (row side net (kind_of net u)) p w → first_at side u p net.chans < length net.chans
each side net u p w k l h =
    let j = joined_of side net k in
    let a = j.each u p in
    let b = has_place side net u p w l h in
    first_within side u p net.chans (omega arith)

pub into_each : (net : Net) (u p w : ℕ) → KeepsC1 net → u < length net.units → HasWidth (ins net false (kind_of net u)) p w → into u p net.chans < length net.chans
into_each net u p w k l h = each In net u p w k l h

pub out_of_each : (net : Net) (u p w : ℕ) → KeepsC1 net → u < length net.units → HasWidth (outs net false (kind_of net u)) p w → out_of u p net.chans < length net.chans
out_of_each net u p w k l h = each Out net u p w k l h
