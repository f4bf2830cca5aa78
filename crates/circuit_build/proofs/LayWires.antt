-- The channels of a built net join their places, and each output place of a unit has one.
use Rattle.std.proofs.Common.{◌≡◌, ◌⊎◌, ℕ, zero, suc, ◌+◌, ◌^◌, ◌<◌, ◌≤◌, List, [], ◌∷◌, length, get_or, map, Bool, true, false, Some, refl, sym, ap, ◌∙◌, subst, inl, inr, arith}
use Rattle.std.specs.Prelude.{cond, slice_get, ◌==◌, ◌&&◌}
use Rattle.std.specs.List.{Contains}
use Rattle.std.proofs.lemmas.Bool.{eqb-true}
use Rattle.std.proofs.lemmas.List.Elements.{All-contains}
use Rattle.std.proofs.lemmas.List.Sums.{sum_by-cons, sum_by-append}
use Rattle.ir.specs.declared.groups.Groups.{Groups}
use Rattle.ir.specs.Graphs.{Graph}
use Rattle.net_types.specs.declared.net.Chan.{Chan}
use Rattle.net_types.specs.declared.net.Net.{Net}
use Rattle.net_types.specs.declared.net.Place.{Place}
use Rattle.net_types.specs.declared.net.Unit.{Unit as Kind}
use Rattle.net_types.specs.Nets.{is_at, at, into, out_of}
use Rattle.net_types.specs.Rules.{times_in, places_at, out_places_from}
use Rattle.net_types.specs.Tables.{Spot, outs}
use Rattle.circuit_build.specs.Asks.{IsAsked}
use Rattle.circuit_build.specs.Built.{whole_draft, built}
use Rattle.circuit_build.specs.Laws.{OneSlot}
use Rattle.circuit_build.proofs.CountBooks.{froms, tos}
use Rattle.circuit_build.proofs.CountChain.{Has, at_own, counts_to, counts_from, found_from}
use Rattle.circuit_build.proofs.CountRules.{Closed, at_place, keeps_c1, one_in, one_out}
use Rattle.circuit_build.proofs.CountWhole.{closed}
use Rattle.circuit_build.proofs.LaySections.{Within, HasPlace, Leaves}
use Rattle.circuit_build.proofs.Marks.{Wired}
use Rattle.circuit_build.proofs.Plain.{one_slot}
use Rattle.circuit_build.proofs.Served.{arrays_bound}
use Rattle.circuit_build.proofs.Small.{small}

-- ---- a channel joins its places

has_at : (cs : List Chan) (k : ℕ) (c : Chan) → k < length cs → get_or cs k c ≡ c → Has c cs
has_at [] k c l e = absurd (omega arith)
has_at (x ∷ cs) zero c l e = inl e
has_at (x ∷ cs) (suc k) c l e = inr (has_at cs k c (omega arith) e)

pub has_of : (cs : List Chan) (c : Chan) → Contains cs c → Has c cs
has_of cs c (k, l, e) = has_at cs k c l e

joined_has : (c : Chan) (cs : List Chan) → Has c cs → tos (at_place c.to.unit c.to.place) cs ≤ 1 → froms (at_place c.from.unit c.from.place) cs ≤ 1 → into c.to.unit c.to.place cs ≡ out_of c.from.unit c.from.place cs
joined_has c [] h l m = absurd h
joined_has c (x ∷ cs) (inl z) l m =
    let a = at_own x.to c.to.unit c.to.place (ap (λ (d : Chan). d.to) z) in
    let b = at_own x.from c.from.unit c.from.place (ap (λ (d : Chan). d.from) z) in
    ap (λ t. cond t 0 (suc (into c.to.unit c.to.place cs))) a ∙ sym (ap (λ t. cond t 0 (suc (out_of c.from.unit c.from.place cs))) b)
joined_has c (x ∷ cs) (inr h) l m = by (is_at x.to c.to.unit c.to.place) (is_at x.from c.from.unit c.from.place) refl refl (counts_to c c.to.unit c.to.place cs refl h) (counts_from c c.from.unit c.from.place cs refl h) (joined_has c cs h)
  where
    by : (s t : Bool) → is_at x.to c.to.unit c.to.place ≡ s → is_at x.from c.from.unit c.from.place ≡ t → 1 ≤ tos (at_place c.to.unit c.to.place) cs → 1 ≤ froms (at_place c.from.unit c.from.place) cs
        → (tos (at_place c.to.unit c.to.place) cs ≤ 1 → froms (at_place c.from.unit c.from.place) cs ≤ 1 → into c.to.unit c.to.place cs ≡ out_of c.from.unit c.from.place cs)
        → into c.to.unit c.to.place (x ∷ cs) ≡ out_of c.from.unit c.from.place (x ∷ cs)
    by true t e f o p i = let a : at_place c.to.unit c.to.place x.to x.width x.ctl ≡ 1 = ap (λ b. cond b 1 0) e in absurd (omega (arith, a, o, l))
    by false true e f o p i = let a : at_place c.from.unit c.from.place x.from x.width x.ctl ≡ 1 = ap (λ b. cond b 1 0) f in absurd (omega (arith, a, p, m))
    by false false e f o p i =
        let a : at_place c.to.unit c.to.place x.to x.width x.ctl ≡ 0 = ap (λ b. cond b 1 0) e in
        let b : at_place c.from.unit c.from.place x.from x.width x.ctl ≡ 0 = ap (λ b. cond b 1 0) f in
        ap (λ s. cond s 0 (suc (into c.to.unit c.to.place cs))) e ∙ ap suc (i (omega (arith, a, l)) (omega (arith, b, m))) ∙ sym (ap (λ s. cond s 0 (suc (out_of c.from.unit c.from.place cs))) f)

out_within : (c : Chan) (cs : List Chan) → Has c cs → out_of c.from.unit c.from.place cs < length cs
out_within c [] h = absurd h
out_within c (x ∷ cs) (inl z) = let e : out_of c.from.unit c.from.place (x ∷ cs) ≡ 0 = ap (λ t. cond t 0 (suc (out_of c.from.unit c.from.place cs))) (at_own x.from c.from.unit c.from.place (ap (λ (d : Chan). d.from) z)) in omega (arith, e)
out_within c (x ∷ cs) (inr h) = by (is_at x.from c.from.unit c.from.place) (out_within c cs h)
  where
    by : (t : Bool) → out_of c.from.unit c.from.place cs < length cs → cond t 0 (suc (out_of c.from.unit c.from.place cs)) < length (x ∷ cs)
    by true i = omega arith
    by false i = omega (arith, i)

pub wired_closed : (net : Net) → length net.units < 2 ^ 32 → Closed net → OneSlot net → (c : Chan) → Contains net.chans c → Wired net c.from c.to
wired_closed net few b plain c h =
    let k = has_of net.chans c h in
    let one = one_out net few b c.from.unit c.from.place in
    let found = found_from c c.from.unit c.from.place net.chans refl one k in
    let s = (All-contains (λ (x : Chan). (x.slots ≡ 1) × (x.delay ≡ 1)) net.chans c plain h).0 in
    let e = ap (λ (x : Chan). x.slots) found in
    record { joined = joined_has c net.chans k (one_in net few b c.to.unit c.to.place) one; within = out_within c net.chans k; slot = omega (arith, e, s) }

-- ---- the output places of a unit

row_has : (u p : ℕ) (ss : List Spot) → HasPlace ss p → 1 ≤ times_in (places_at u ss) u p
row_has u p [] h = absurd h
row_has u p (s ∷ ss) (inl e) =
    let a = sum_by-cons (λ (q : Place). cond (is_at q u p) 1 0) (at u s.place) (places_at u ss) in
    let b : cond (is_at (at u s.place) u p) 1 0 ≡ 1 = ap {B = ℕ} (λ t. cond t 1 0) (at_own (at u s.place) u p (ap (λ n. at u n) e)) in
    omega (arith, a, b)
row_has u p (s ∷ ss) (inr h) = let a = sum_by-cons (λ (q : Place). cond (is_at q u p) 1 0) (at u s.place) (places_at u ss) in let i = row_has u p ss h in omega (arith, a, i)

places_have : (net : Net) (u p n i : ℕ) (ks : List Kind) (k : Kind) → u ≡ n + i → slice_get ks i ≡ Some k → HasPlace (outs net false k) p → 1 ≤ times_in (out_places_from net n ks) u p
places_have net u p n i [] k s e h = absurd (cc)
places_have net u p n zero (x ∷ ks) k s e h =
    let z : x ≡ k = cc in
    let y : n ≡ u = omega (arith, s) in
    let a = sum_by-append (λ (q : Place). cond (is_at q u p) 1 0) (places_at n (outs net false x)) (out_places_from net (suc n) ks) in
    let b = row_has u p (outs net false k) h in
    let c : times_in (places_at n (outs net false x)) u p ≡ times_in (places_at u (outs net false k)) u p = ap (λ j. times_in (places_at n (outs net false j)) u p) z ∙ ap (λ m. times_in (places_at m (outs net false k)) u p) y in
    omega (arith, a, b, c)
places_have net u p n (suc i) (x ∷ ks) k s e h =
    let a = sum_by-append (λ (q : Place). cond (is_at q u p) 1 0) (places_at n (outs net false x)) (out_places_from net (suc n) ks) in
    let b = places_have net u p (suc n) i ks k (omega (arith, s)) e h in
    omega (arith, a, b)

and-left : (a b : Bool) → (a && b) ≡ true → a ≡ true
and-left true b e = refl
and-left false b e = absurd (cc)

and-right : (a b : Bool) → (a && b) ≡ true → b ≡ true
and-right true b e = e
and-right false b e = absurd (cc)

record Begins (cs : List Chan) (u p : ℕ) : Type 0 where
  chan : Chan
  stands : Contains cs chan
  from : chan.from ≡ at u p

begins : (u p : ℕ) (cs : List Chan) → 1 ≤ times_in (map (λ (c : Chan). c.from) cs) u p → Begins cs u p
begins u p [] h = absurd (omega arith)
begins u p (c ∷ cs) h = by (is_at c.from u p) refl (begins u p cs)
  where
    by : (b : Bool) → is_at c.from u p ≡ b → (1 ≤ times_in (map (λ (d : Chan). d.from) cs) u p → Begins cs u p) → Begins (c ∷ cs) u p
    by true e rest =
        let x : c.from.unit ≡ u = eqb-true c.from.unit u (and-left (c.from.unit == u) (c.from.place == p) e) in
        let y : c.from.place ≡ p = eqb-true c.from.place p (and-right (c.from.unit == u) (c.from.place == p) e) in
        record { chan = c; stands = (0, omega arith, refl); from = ap (λ v. at v c.from.place) x ∙ ap (λ q. at u q) y }
    by false e rest =
        let a = sum_by-cons (λ (q : Place). cond (is_at q u p) 1 0) c.from (map (λ (d : Chan). d.from) cs) in
        let b : cond (is_at c.from u p) 1 0 ≡ 0 = ap {B = ℕ} (λ t. cond t 1 0) e in
        let i = rest (omega (arith, a, b, h)) in
        record { chan = i.chan; stands = (suc i.stands.0, omega (arith, i.stands.1), i.stands.2); from = i.from }

leaves_closed : (net : Net) → length net.units < 2 ^ 32 → Closed net → OneSlot net → Leaves net
leaves_closed net few b plain u p k e h =
    let c1 = keeps_c1 net few b in
    let n = places_have net u p 0 u net.units k (omega arith) e h in
    let m = c1.out_of_each u p in
    let x = begins u p net.chans (omega (arith, n, m)) in
    let w = wired_closed net few b plain x.chan x.stands in
    (x.chan.to, subst (λ q. Wired net q x.chan.to) x.from w)

-- ---- the built net

pub net_closed : (g : Graph) (gs : Groups) → IsAsked g gs → Closed (built g gs)
net_closed g gs ask = closed g gs ask.graph ask.share ask.small.bounded (arrays_bound g gs ask)

pub net_leaves : (g : Graph) (gs : Groups) → IsAsked g gs → Leaves (built g gs)
net_leaves g gs ask = leaves_closed (built g gs) (small g gs ask).units (net_closed g gs ask) (one_slot g gs)

-- all that is laid stands in the net
pub net_within : (g : Graph) (gs : Groups) → IsAsked g gs → Within (built g gs) (whole_draft g gs)
net_within g gs ask = record {
  unit = λ u k e. e;
  wire = λ c h. wired_closed (built g gs) (small g gs ask).units (net_closed g gs ask) (one_slot g gs) c h;
  less = omega arith;
  few = (small g gs ask).units;
}
