-- Cycles of channels of delay 0 are there where one can walk backward over such channels without end.
use Rattle.std.proofs.Common.{◌≡◌, ◌⊎◌, inl, inr, ℕ, zero, suc, ◌+◌, ◌<◌, ◌≤◌, ◌==◌, ◌||◌, Bool, true, false, List, [], ◌∷◌, length, refl, sym, ap, subst, ◌∙◌, arith}
use Rattle.std.proofs.lemmas.Bool.{cases_eq, cases_lt, eq-eqb, ne_eqb, eqb-true}
use Rattle.std.proofs.lemmas.List.Sums.{sum_by-cons}
use Rattle.net_types.specs.declared.net.Net.{Net}
use Rattle.net_types.specs.Nets.{chan_at}
use Rattle.net_check.specs.Cycles.{IsInstant, Leads, IsClosedWalk, IsEndless}
use Rattle.net_check.specs.private.Marks.{times}
use Rattle.net_check.proofs.PeelLemmas.{bit}

-- ---- a walk that leads round gives a set of units to walk back in

-- is the unit one that a channel of the list goes into
entered : Net → List ℕ → ℕ → Bool
entered net [] u = false
entered net (c ∷ cs) u = ((chan_at net c).to.unit == u) || entered net cs u

or_left : (a b : Bool) → a ≡ true → a || b ≡ true
or_left a b e = ap (λ x. x || b) e

or_right : (a b : Bool) → b ≡ true → a || b ≡ true
or_right true b e = refl
or_right false b e = e

or_parts : (a b : Bool) → a || b ≡ true → (a ≡ true) ⊎ (b ≡ true)
or_parts true b e = inl refl
or_parts false b e = inr e

-- the last unit of a walk is entered
entered_last : (net : Net) (v : ℕ) (cs : List ℕ) (u : ℕ) → 0 < length cs → Leads net v cs u → entered net cs u ≡ true
unfolding entered
entered_last net v [] u h l = absurd (omega arith)
entered_last net v (c ∷ []) u h l = or_left _ _ (eq-eqb _ _ l.1)
entered_last net v (c ∷ (d ∷ cs)) u h l = or_right ((chan_at net c).to.unit == u) _ (entered_last net (chan_at net c).to.unit (d ∷ cs) u (omega arith) l.1)

record Comes (net : Net) (set : ℕ → Bool) (w : ℕ) : Type 0 where
  unit : ℕ
  here : set unit ≡ true
  chan : ℕ
  instant : IsInstant net unit w chan

-- a unit that is entered is entered by a channel from the first unit, or from one that is entered
comes : (net : Net) (v : ℕ) (cs : List ℕ) (u w : ℕ) (set : ℕ → Bool) → Leads net v cs u → set v ≡ true → ((x : ℕ) → entered net cs x ≡ true → set x ≡ true) → entered net cs w ≡ true → Comes net set w
unfolding entered
comes net v [] u w set l first all e = cc
comes net v (c ∷ cs) u w set l first all e =
    elim (or_parts ((chan_at net c).to.unit == w) (entered net cs w) e) [
      | inl t ↦ (let s : (chan_at net c).to.unit ≡ w = eqb-true _ _ t in
          record { unit = v; here = first; chan = c; instant = subst (λ x. IsInstant net v x c) s l.0 })
      | inr t ↦ comes net (chan_at net c).to.unit cs u w set l.1
          (all (chan_at net c).to.unit (or_left _ _ (eq-eqb (chan_at net c).to.unit (chan_at net c).to.unit refl)))
          (λ x h. all x (or_right ((chan_at net c).to.unit == x) _ h)) t
    ]

pub endless_on : (net : Net) (cs : List ℕ) → (w : IsClosedWalk net cs) → IsEndless net w.unit
endless_on net cs w = record {
  set = entered net cs;
  here = entered_last net w.unit cs w.unit w.some w.leads;
  back = λ x h. (let r = comes net w.unit cs w.unit x (entered net cs) w.leads (entered_last net w.unit cs w.unit w.some w.leads) (λ y e. e) h in (r.unit, (r.here, (r.chan, r.instant))));
}

-- ---- a list of numbers below a bound, none of which stands twice, is no longer than the bound

times-cons : (x : ℕ) (xs : List ℕ) (u : ℕ) → times (x ∷ xs) u ≡ bit (x == u) + times xs u
times-cons x xs u = sum_by-cons (λ y. bit (y == u)) x xs

abbrev Below : ℕ → List ℕ → Type 0
Below n [] = Unit {0}
Below n (x ∷ xs) = (x < n) × Below n xs

-- how many of the list are below the bound
abbrev upto : ℕ → List ℕ → ℕ
upto zero us = 0
upto (suc n) us = upto n us + times us n

upto_same : (n x : ℕ) (xs : List ℕ) → n ≤ x → upto n (x ∷ xs) ≡ upto n xs
upto_same zero x xs l = refl
upto_same (suc n) x xs l =
    let a = times-cons x xs n in
    let b : bit (x == n) ≡ 0 = ap bit (ne_eqb x n (λ e. (omega (arith, e)))) in
    let r = upto_same n x xs (omega arith) in
    omega arith

upto_more : (n x : ℕ) (xs : List ℕ) → x < n → upto n (x ∷ xs) ≡ suc (upto n xs)
upto_more zero x xs l = absurd (omega arith)
upto_more (suc n) x xs l = by (cases_eq x n) (upto_more n x xs)
  where
    by : (x ≡ n) ⊎ (x ≡ n → ⊥) → (x < n → upto n (x ∷ xs) ≡ suc (upto n xs)) → upto (suc n) (x ∷ xs) ≡ suc (upto (suc n) xs)
    by (inl e) r =
        let a = times-cons x xs n in
        let b : bit (x == n) ≡ 1 = ap bit (eq-eqb x n e) in
        let s = upto_same n x xs (omega (arith, e)) in
        omega arith
    by (inr d) r =
        let a = times-cons x xs n in
        let b : bit (x == n) ≡ 0 = ap bit (ne_eqb x n d) in
        let k : x < n = below (cases_lt x n) in
        let s = r k in
        omega arith
      where
        below : (x < n) ⊎ (n ≤ x) → x < n
        below (inl k) = k
        below (inr k) = absurd (d (omega (arith, l, k)))

length_upto : (n : ℕ) (us : List ℕ) → Below n us → length us ≤ upto n us
length_upto n [] b = omega arith
length_upto n (x ∷ xs) b = let m = upto_more n x xs b.0 in let r = length_upto n xs b.1 in omega arith

upto_most : (n : ℕ) (us : List ℕ) → ((u : ℕ) → times us u ≤ 1) → upto n us ≤ n
upto_most zero us h = omega arith
upto_most (suc n) us h = let a = h n in let r = upto_most n us h in omega arith

pub few_below : (n : ℕ) (us : List ℕ) → Below n us → ((u : ℕ) → times us u ≤ 1) → length us ≤ n
few_below n us b h = let a = length_upto n us b in let c = upto_most n us h in omega arith

-- ---- walking back, a channel comes again

-- the walk up to where the channel c begins
record Part (net : Net) (w c : ℕ) : Type 0 where
  chans : List ℕ
  leads : Leads net w chans (chan_at net c).from.unit

part_of : (net : Net) (w : ℕ) (cs : List ℕ) (u c : ℕ) → Leads net w cs u → 0 < times cs c → Part net w c
part_of net w [] u c l h = absurd (omega arith)
part_of net w (d ∷ cs) u c l h =
    elim (cases_eq d c) [
      | inl e ↦ record { chans = []; leads = sym l.0.source ∙ ap (λ x. (chan_at net x).from.unit) e }
      | inr e ↦ (let a = times-cons d cs c in
          let b : bit (d == c) ≡ 0 = ap bit (ne_eqb d c e) in
          let r = part_of net (chan_at net d).to.unit cs u c l.1 (omega arith) in
          record { chans = d ∷ r.chans; leads = (l.0, r.leads) })
    ]

record Cycle (net : Net) : Type 0 where
  chans : List ℕ
  closed : IsClosedWalk net chans

closes : (net : Net) (v w c : ℕ) → IsInstant net v w c → Part net w c → Cycle net
closes net v w c i p =
    let e : (chan_at net c).from.unit ≡ v = i.source in
    let t : (chan_at net c).to.unit ≡ w = i.target in
    let j : IsInstant net v (chan_at net c).to.unit c = record { within = i.within; delay = i.delay; source = i.source; target = refl } in
    let a : Leads net (chan_at net c).to.unit p.chans v = subst (λ x. Leads net x p.chans v) (sym t) (subst (λ x. Leads net w p.chans x) e p.leads) in
    record { chans = c ∷ p.chans; closed = record { unit = v; some = omega arith; leads = (j, a) } }

-- one channel more of which there was none before
still_once : (c : ℕ) (cs : List ℕ) → times cs c ≡ 0 → ((u : ℕ) → times cs u ≤ 1) → (u : ℕ) → times (c ∷ cs) u ≤ 1
still_once c cs z h u = elim (cases_eq c u) [
  | inl e ↦ (let a = times-cons c cs u in
      let b : bit (c == u) ≡ 1 = ap bit (eq-eqb c u e) in
      let d : times cs u ≡ 0 = ap (times cs) (sym e) ∙ z in omega arith)
  | inr e ↦ (let a = times-cons c cs u in
      let b : bit (c == u) ≡ 0 = ap bit (ne_eqb c u e) in
      let d = h u in omega arith)
]

module _ (net : Net) (set : ℕ → Bool) (back : (w : ℕ) → set w ≡ true → (v : ℕ) × ((set v ≡ true) × ((c : ℕ) × IsInstant net v w c))) (end : ℕ) where
  search_back : (n w : ℕ) (cs : List ℕ) → set w ≡ true → Leads net w cs end → Below (length net.chans) cs → ((u : ℕ) → times cs u ≤ 1) → length net.chans < length cs + n → Cycle net
  search_back zero w cs s l b h k = absurd (let f = few_below (length net.chans) cs b h in omega arith)
  search_back (suc n) w cs s l b h k =
      let v = (back w s).0 in
      let c = (back w s).1.1.0 in
      let i : IsInstant net v w c = (back w s).1.1.1 in
      let j : IsInstant net v (chan_at net c).to.unit c = record { within = i.within; delay = i.delay; source = i.source; target = refl } in
      let a : Leads net (chan_at net c).to.unit cs end = subst (λ x. Leads net x cs end) (sym i.target) l in
      elim (cases_lt 0 (times cs c)) [
        | inl m ↦ closes net v w c i (part_of net w cs end c l m)
        | inr m ↦ search_back n v (c ∷ cs) (back w s).1.0 (j, a) (i.within, b) (still_once c cs (omega arith) h) (omega arith)
      ]

pub cycle_of : (net : Net) (u : ℕ) → IsEndless net u → (cs : List ℕ) × IsClosedWalk net cs
cycle_of net u e =
    let r = search_back net e.set e.back u (suc (length net.chans)) u [] e.here refl tt (λ x. (omega arith)) (omega arith) in
    (r.chans, r.closed)

pub none_endless : (net : Net) → ((cs : List ℕ) → IsClosedWalk net cs → ⊥) → (u : ℕ) → IsEndless net u → ⊥
none_endless net h u e = let r = cycle_of net u e in h r.0 r.1

pub no_cycle : (net : Net) → ((u : ℕ) → IsEndless net u → ⊥) → (cs : List ℕ) → IsClosedWalk net cs → ⊥
no_cycle net h cs w = h w.unit (endless_on net cs w)
