-- Rule C1 from the ends of channels.
use Rattle.std.proofs.Common.{◌≡◌, ◌⊎◌, inl, inr, ℕ, suc, ◌+◌, ◌<◌, ◌≤◌, ◌==◌, ◌&&◌, not, nat_lt, Bool, true, false, cond, Option, Some, None, is_some, MatchOption, IsTrue, ◌↔◌, List, [], ◌∷◌, length, get_or, map, take, subst, refl, sym, ap, ◌∙◌, arith, below_more, eqb-true, rules}
use Rattle.std.specs.List.{All}
use Rattle.std.specs.declared.cmp.Ordering.{Ordering}
use Rattle.std.specs.Ordering.{nat_cmp, ordering_then, is_eq}
use Rattle.std.specs.declared.cmp.Ordering.TheVariants.{Less, Equal, Greater}
use Rattle.std.specs.BTreeSet.{BTreeSet, contains}
use Rattle.std.proofs.lemmas.Bool.{cases_eq, cases_lt, both_ways, eq-eqb, ne_eqb, ltb-true, ltb-false, lt-ltb}
use Rattle.std.proofs.lemmas.List.{take_all}
use Rattle.std.proofs.lemmas.List.Sums.{sum_by-cons, sum_by_more, get_or-le-sum_by}
use Rattle.net_types.specs.declared.net.Place.{Place}
use Rattle.net_types.specs.declared.net.Chan.{Chan}
use Rattle.net_types.specs.declared.net.Net.{Net}
use Rattle.net_types.specs.declared.net.Unit.{Unit as Kind}
use Rattle.net_types.specs.Nets.{is_at, nowhere, chan_at, kind_of}
use Rattle.net_types.specs.Rules.{KeepsC1, times_in}
use Rattle.net_check.specs.declared.refusal.At.{At}
use Rattle.net_check.specs.declared.refusal.At.TheVariants as «at»
use Rattle.net_check.specs.declared.wires.Side.{Side}
use Rattle.net_check.specs.declared.wires.Side.TheVariants.{In, Out}
use Rattle.net_check.specs.Lowest.{IsLowest, ChanLacks}
use Rattle.net_check.specs.Places.{HasEnds, IsJoined, IsUnjoined, CulpritC1}
use Rattle.net_check.specs.private.Widths.{width_in}
use Rattle.net_check.specs.private.Wires.{end_of, bound}
use Rattle.net_check.specs.private.Joins.{ended, placed, row, AreAlone, AreMet, AreJoined, pair_cmp, knows, IsTwice, IsGathered, AreKnown, IsKnown, IsKnownUnit, IsMissing, lowest}
use Rattle.net_check.proofs.MarkLemmas.{default, no-true, true_iff, false_iff}
use Rattle.net_check.proofs.FirstLemmas.{all_chans, within_same, past_same}
use Rattle.net_check.proofs.PlaceCounts.{count_map, one_some, placed_at, placed_past, placed_most, placed_within, placed_below}

pub at_same : (x : Place) (u p : ℕ) → is_at x u p ≡ true → (x.unit ≡ u) × (x.place ≡ p)
at_same x u p e = by (x.unit == u) refl (x.place == p) refl e
  where
    by : (a : Bool) → (x.unit == u) ≡ a → (b : Bool) → (x.place == p) ≡ b → a && b ≡ true → (x.unit ≡ u) × (x.place ≡ p)
    by true a true b h = (eqb-true _ _ a, eqb-true _ _ b)
    by true a false b h = cc
    by false a b c h = cc

pub at_itself : (x : Place) → is_at x x.unit x.place ≡ true
at_itself x = rw (eq-eqb x.unit x.unit refl, eq-eqb x.place x.place refl) refl

not_at_unit : (x : Place) (u p : ℕ) → (x.unit ≡ u → ⊥) → is_at x u p ≡ false
not_at_unit x u p h = ap (λ b. b && (x.place == p)) (ne_eqb x.unit u h)

-- pairs tie where they are equal
number_tie : (a u : ℕ) → is_eq (nat_cmp a u) ≡ (a == u)
number_tie a u = by (nat_lt a u) refl (a == u) refl
  where
    by : (x : Bool) → nat_lt a u ≡ x → (y : Bool) → (a == u) ≡ y → is_eq (cond x Less (cond y Equal Greater)) ≡ y
    by true l true e = let z : a < u = ltb-true _ _ l in let w : a ≡ u = eqb-true _ _ e in absurd (omega arith)
    by true l false e = refl
    by false l true e = refl
    by false l false e = refl

both_tie : (x y : Ordering) → is_eq (ordering_then x y) ≡ is_eq x && is_eq y
both_tie Less y = refl
both_tie Equal y = refl
both_tie Greater y = refl

tie : (x : Place) (u p : ℕ) → is_eq (pair_cmp (x.unit, x.place) (u, p)) ≡ is_at x u p
tie x u p = both_tie (nat_cmp x.unit u) (nat_cmp x.place p) ∙ ap (λ b. b && is_eq (nat_cmp x.place p)) (number_tie x.unit u) ∙ ap (λ b. (x.unit == u) && b) (number_tie x.place p)

-- one channel more
ended_more : (side : Side) (cs : List Chan) (i u p : ℕ) (c : Chan) → i < length cs → c ≡ get_or cs i c → ended side (take (i + 1) cs) u p ≡ ended side (take i cs) u p + cond (is_at (end_of side c) u p) 1 0
ended_more side cs i u p c l e =
    sum_by_more (λ (x : Chan). cond (is_at (end_of side x) u p) 1 0) cs i c l ∙ ap (λ (x : Chan). ended side (take i cs) u p + cond (is_at (end_of side x) u p) 1 0) (sym e)

marked : (b : Bool) (n : ℕ) → cond b true (nat_lt 0 n) ≡ nat_lt 0 (n + cond b 1 0)
marked true n = sym (lt-ltb 0 (n + 1) (omega arith))
marked false n = ap (nat_lt 0) (omega arith)

pub gathered_none : (side : Side) (known : BTreeSet (ℕ × ℕ)) → known.keys ≡ [] → IsGathered side [] known None
gathered_none side known e = record {
  has = λ u p. (let f : knows known u p ≡ false = by known.keys e (u, p) in f);
  two = λ u p. (omega arith);
}
  where
    by : (ks : List (ℕ × ℕ)) → ks ≡ [] → (q : ℕ × ℕ) → contains pair_cmp (record { keys = ks }) q ≡ false
    by ks e q = ap (λ xs. contains pair_cmp (record { keys = xs }) q) e

module _ (side : Side) (cs : List Chan) (i : ℕ) (c : Chan) (end : Place) (known after : BTreeSet (ℕ × ℕ)) (l : i < length cs) (e : c ≡ get_or cs i c) (d : end ≡ end_of side c)
    (has : (u p : ℕ) → knows known u p ≡ nat_lt 0 (ended side (take i cs) u p)) (adds : (q : ℕ × ℕ) → contains pair_cmp after q ≡ cond (is_eq (pair_cmp (end.unit, end.place) q)) true (contains pair_cmp known q)) where
  more : (u p : ℕ) → ended side (take (i + 1) cs) u p ≡ ended side (take i cs) u p + cond (is_at end u p) 1 0
  more u p = ended_more side cs i u p c l e ∙ ap (λ (x : Place). ended side (take i cs) u p + cond (is_at x u p) 1 0) (sym d)

  has_more : (u p : ℕ) → knows after u p ≡ nat_lt 0 (ended side (take (i + 1) cs) u p)
  has_more u p =
      adds (u, p) ∙ ap (λ b. cond b true (knows known u p)) (tie end u p) ∙ ap (λ h. cond (is_at end u p) true h) (has u p)
      ∙ marked (is_at end u p) (ended side (take i cs) u p) ∙ ap (nat_lt 0) (sym (more u p))

  -- an end that was not there before
  fresh : knows known end.unit end.place ≡ false → ended side (take i cs) end.unit end.place ≡ 0
  fresh f = let z : ended side (take i cs) end.unit end.place ≤ 0 = ltb-false _ _ (sym (has end.unit end.place) ∙ f) in omega arith

  stays_one : knows known end.unit end.place ≡ false → (u p : ℕ) → ended side (take i cs) u p ≤ 1 → ended side (take (i + 1) cs) u p ≤ 1
  stays_one f u p h = by (is_at end u p) refl
    where
      by : (b : Bool) → is_at end u p ≡ b → ended side (take (i + 1) cs) u p ≤ 1
      by true b =
          let s = at_same end u p b in
          let z : ended side (take i cs) u p ≡ 0 = ap (λ x. ended side (take i cs) x p) (sym s.0) ∙ ap (λ x. ended side (take i cs) end.unit x) (sym s.1) ∙ fresh f in
          let m : ended side (take (i + 1) cs) u p ≡ ended side (take i cs) u p + 1 = more u p ∙ ap (λ x. ended side (take i cs) u p + cond x 1 0) b in
          omega arith
      by false b =
          let m : ended side (take (i + 1) cs) u p ≡ ended side (take i cs) u p + 0 = more u p ∙ ap (λ x. ended side (take i cs) u p + cond x 1 0) b in
          omega arith

  no_fewer : (u p : ℕ) → ended side (take i cs) u p ≤ ended side (take (i + 1) cs) u p
  no_fewer u p = let m = more u p in omega arith

  twice_fresh : knows known end.unit end.place ≡ false → (t : Option ℕ) → IsTwice side (take i cs) t → IsTwice side (take (i + 1) cs) t
  twice_fresh f None h = λ u p. stays_one f u p (h u p)
  twice_fresh f (Some t) ((p, h), b) = ((p, let m = no_fewer t p in omega arith), λ u p k. stays_one f u p (b u p k))

  -- an end that was there
  now_two : knows known end.unit end.place ≡ true → 2 ≤ ended side (take (i + 1) cs) end.unit end.place
  now_two f =
      let z : 0 < ended side (take i cs) end.unit end.place = ltb-true _ _ (sym (has end.unit end.place) ∙ f) in
      let m : ended side (take (i + 1) cs) end.unit end.place ≡ ended side (take i cs) end.unit end.place + 1 = more end.unit end.place ∙ ap (λ x. ended side (take i cs) end.unit end.place + cond x 1 0) (at_itself end) in
      omega arith

  stays_below : (u p : ℕ) → u < end.unit → ended side (take i cs) u p ≤ 1 → ended side (take (i + 1) cs) u p ≤ 1
  stays_below u p k h =
      let m : ended side (take (i + 1) cs) u p ≡ ended side (take i cs) u p + 0 = more u p ∙ ap (λ x. ended side (take i cs) u p + cond x 1 0) (not_at_unit end u p (λ x. (omega arith))) in
      omega arith

  twice_again : knows known end.unit end.place ≡ true → (t : Option ℕ) → IsTwice side (take i cs) t → IsTwice side (take (i + 1) cs) (lowest t (Some end.unit))
  twice_again f None h = ((end.place, now_two f), λ u p k. stays_below u p k (h u p))
  twice_again f (Some t) ((p, h), b) = by (nat_lt end.unit t) refl
    where
      by : (x : Bool) → nat_lt end.unit t ≡ x → IsTwice side (take (i + 1) cs) (cond x (Some end.unit) (Some t))
      by true x = let z : end.unit < t = ltb-true _ _ x in ((end.place, now_two f), λ u p k. stays_below u p k (b u p (omega arith)))
      by false x = let z : t ≤ end.unit = ltb-false _ _ x in ((p, let m = no_fewer t p in omega arith), λ u p k. stays_below u p (omega arith) (b u p k))

pub gathered_fresh : (side : Side) (cs : List Chan) (i : ℕ) (d : Chan) (end : Place) (known after : BTreeSet (ℕ × ℕ)) (t : Option ℕ) (new : Bool) → i < length cs → end ≡ end_of side (get_or cs i d)
    → IsGathered side (take i cs) known t → ((q : ℕ × ℕ) → contains pair_cmp after q ≡ cond (is_eq (pair_cmp (end.unit, end.place) q)) true (contains pair_cmp known q))
    → new ≡ not (contains pair_cmp known (end.unit, end.place)) → new ≡ true → IsGathered side (take (i + 1) cs) after t
gathered_fresh side cs i d end known after t new l e g a n b = record {
  has = has_more side cs i (get_or cs i d) end known after l (default cs i d (get_or cs i d) l) e g.has a;
  two = twice_fresh side cs i (get_or cs i d) end known after l (default cs i d (get_or cs i d) l) e g.has a (flip (contains pair_cmp known (end.unit, end.place)) (sym n ∙ b)) t g.two;
}
  where
    flip : (x : Bool) → not x ≡ true → x ≡ false
    flip true h = cc
    flip false h = refl

pub gathered_again : (side : Side) (cs : List Chan) (i : ℕ) (d : Chan) (end : Place) (known after : BTreeSet (ℕ × ℕ)) (t s : Option ℕ) (new : Bool) → i < length cs → end ≡ end_of side (get_or cs i d)
    → IsGathered side (take i cs) known t → ((q : ℕ × ℕ) → contains pair_cmp after q ≡ cond (is_eq (pair_cmp (end.unit, end.place) q)) true (contains pair_cmp known q))
    → new ≡ not (contains pair_cmp known (end.unit, end.place)) → new ≡ false → s ≡ lowest t (Some end.unit) → IsGathered side (take (i + 1) cs) after s
gathered_again side cs i d end known after t s new l e g a n b k = record {
  has = has_more side cs i (get_or cs i d) end known after l (default cs i d (get_or cs i d) l) e g.has a;
  two = (let P : Option ℕ → Type 0 = IsTwice side (take (i + 1) cs) in
      subst P (sym k) (twice_again side cs i (get_or cs i d) end known after l (default cs i d (get_or cs i d) l) e g.has a (flip (contains pair_cmp known (end.unit, end.place)) (sym n ∙ b)) t g.two));
}
  where
    flip : (x : Bool) → not x ≡ false → x ≡ true
    flip true h = refl
    flip false h = cc

pub gathered_all : (side : Side) (cs : List Chan) (i : ℕ) (known : BTreeSet (ℕ × ℕ)) (t : Option ℕ) → length cs ≤ i → IsGathered side (take i cs) known t → IsGathered side cs known t
gathered_all side cs i known t l g = let P : List Chan → Type 0 = λ xs. IsGathered side xs known t in subst P (take_all i cs l) g

-- all places of a unit are below its bound
pub known_unit : (side : Side) (net : Net) (known : BTreeSet (ℕ × ℕ)) (u n : ℕ) → n ≡ bound side (kind_of net u) → AreKnown side net known u n → IsKnown side net known u
known_unit side net known u n e a = record { each = λ p h. (let z = placed_below side net u p h in a.each p (omega arith) h) }

pub known_below : (side : Side) (net : Net) (known : BTreeSet (ℕ × ℕ)) (u n : ℕ) → IsKnown side net known u → AreKnown side net known u n
known_below side net known u n k = record { each = λ p l h. k.each p h }

pub known_more : (side : Side) (net : Net) (known : BTreeSet (ℕ × ℕ)) (u n : ℕ) → AreKnown side net known u n → (0 < placed side net u n → knows known u n ≡ true) → AreKnown side net known u (n + 1)
known_more side net known u n a h = record { each = λ p l. by p (cases_eq p n) l }
  where
    by : (p : ℕ) → (p ≡ n) ⊎ (p ≡ n → ⊥) → p < n + 1 → 0 < placed side net u p → knows known u p ≡ true
    by p (inl e) l z =
        let y : placed side net u p ≡ placed side net u n = ap (placed side net u) e in
        ap (knows known u) e ∙ h (omega arith)
    by p (inr e) l z = a.each p (omega arith) z

pub known_found : (side : Side) (net : Net) (known : BTreeSet (ℕ × ℕ)) (u n : ℕ) (b : Bool) → AreKnown side net known u n → b ≡ knows known u n → b ≡ true → AreKnown side net known u (n + 1)
known_found side net known u n b a e t = known_more side net known u n a (λ h. sym e ∙ t)

pub known_hole : (side : Side) (net : Net) (known : BTreeSet (ℕ × ℕ)) (u n : ℕ) (b : Bool) → AreKnown side net known u n → b ≡ nat_lt 0 (placed side net u n) → b ≡ false → AreKnown side net known u (n + 1)
known_hole side net known u n b a e f = known_more side net known u n a (λ h. (let z : placed side net u n ≤ 0 = ltb-false _ _ (sym e ∙ f) in absurd (omega arith)))

pub known_no : (side : Side) (net : Net) (known : BTreeSet (ℕ × ℕ)) (u n p : ℕ) (b d : Bool) → p < n → b ≡ nat_lt 0 (placed side net u p) → b ≡ true → d ≡ knows known u p → d ≡ false → AreKnown side net known u n → ⊥
known_no side net known u n p b d l e t f g a = both_ways _ (sym e2) (a.each p l (ltb-true _ _ (sym e ∙ t)))
  where
    e2 : false ≡ knows known u p
    e2 = sym g ∙ f

-- whether a place exists
pub place_absent : (side : Side) (net : Net) (us : List Kind) (u p : ℕ) → us ≡ net.units → length us ≤ u → false ≡ nat_lt 0 (placed side net u p)
place_absent side net us u p e l = sym (ap (nat_lt 0) (placed_past side net u p (past_same us net.units u e l)))

pub place_found : (side s : Side) (net : Net) (us : List Kind) (u p : ℕ) (o : Option ℕ) (b : Bool) → side ≡ s → us ≡ net.units → u < length us → o ≡ width_in (row s net (kind_of net u)) p → b ≡ is_some o → b ≡ nat_lt 0 (placed side net u p)
place_found side s net us u p o b e f l w d =
    let a : b ≡ nat_lt 0 (placed s net u p) = d ∙ ap is_some w ∙ sym (one_some (width_in (row s net (kind_of net u)) p)) ∙ ap (nat_lt 0) (sym (placed_at s net u p (within_same us net.units u f l))) in
    let P : Side → Type 0 = λ x. b ≡ nat_lt 0 (placed x net u p) in
    subst P (sym e) a

pub no_from : (net : Net) (c : Chan) (b : Bool) → b ≡ nat_lt 0 (placed Out net c.from.unit c.from.place) → b ≡ false → IsTrue false ↔ HasEnds net c
no_from net c b e f = no-true _ (λ h. (let z : placed Out net c.from.unit c.from.place ≤ 0 = ltb-false _ _ (sym e ∙ f) in let y : 0 < placed Out net c.from.unit c.from.place = h.from in omega arith))

pub to_decides : (net : Net) (c : Chan) (b d : Bool) → b ≡ nat_lt 0 (placed Out net c.from.unit c.from.place) → b ≡ true → d ≡ nat_lt 0 (placed In net c.to.unit c.to.place) → IsTrue d ↔ HasEnds net c
to_decides net c b true e t f = (λ x. record { from = ltb-true _ _ (sym e ∙ t); to = ltb-true _ _ (sym f) }, λ h. search rules)
to_decides net c b false e t f = no-true _ (λ h. (let z : placed In net c.to.unit c.to.place ≤ 0 = ltb-false _ _ (sym f) in let y : 0 < placed In net c.to.unit c.to.place = h.to in omega arith))

-- the lowest channel with an end that is no place
chan_read_at : (net : Net) (cs : List Chan) (i : ℕ) (d : Chan) → cs ≡ net.chans → i < length cs → get_or cs i d ≡ chan_at net i
chan_read_at net cs i d e l = ap (λ xs. get_or xs i d) e ∙ default net.chans i d nowhere (let P : List Chan → Type 0 = λ xs. i < length xs in subst P e l)

pub stray_found : (net : Net) (cs : List Chan) (i : ℕ) (d : Chan) (b : Bool) → cs ≡ net.chans → i < length cs → ((v : ℕ) → v < i → HasEnds net (chan_at net v))
    → (IsTrue b ↔ HasEnds net (get_or cs i d)) → b ≡ false → IsLowest (ChanLacks net (HasEnds net)) i
stray_found net cs i d b e l a h f = record {
  here = record {
    within = (let P : List Chan → Type 0 = λ xs. i < length xs in subst P e l);
    lacks = λ x. false_iff b (HasEnds net (get_or cs i d)) h f (let Q : Chan → Type 0 = HasEnds net in subst Q (sym (chan_read_at net cs i d e l)) x);
  };
  below = λ v k y. y.lacks (a v k);
}

pub stray_more : (net : Net) (cs : List Chan) (i : ℕ) (d : Chan) (b : Bool) → cs ≡ net.chans → i < length cs → ((v : ℕ) → v < i → HasEnds net (chan_at net v))
    → (IsTrue b ↔ HasEnds net (get_or cs i d)) → b ≡ true → (v : ℕ) → v < i + 1 → HasEnds net (chan_at net v)
stray_more net cs i d b e l a h t = below_more _ _ a (let Q : Chan → Type 0 = HasEnds net in subst Q (chan_read_at net cs i d e l) (true_iff b (HasEnds net (get_or cs i d)) h t))

pub stray_none : (net : Net) (cs : List Chan) (i : ℕ) → cs ≡ net.chans → length cs ≤ i → ((v : ℕ) → v < i → HasEnds net (chan_at net v)) → All (HasEnds net) net.chans
stray_none net cs i e l a =
    let P : List Chan → Type 0 = λ xs. length xs ≤ i in
    let w : length net.chans ≤ i = subst P e l in
    all_chans net (HasEnds net) (λ v k. a v (omega arith))

-- where each channel has places at its ends, each end is a place
ends_of : (side : Side) (net : Net) (u p : ℕ) (cs : List Chan) → ((i : ℕ) → i < length cs → 0 < placed side net (end_of side (get_or cs i nowhere)).unit (end_of side (get_or cs i nowhere)).place)
    → 0 < ended side cs u p → 0 < placed side net u p
ends_of side net u p [] a h = absurd (omega arith)
ends_of side net u p (c ∷ cs) a h = by (is_at (end_of side c) u p) refl (ends_of side net u p cs (λ i l. a (suc i) (omega arith)))
  where
    s : ended side (c ∷ cs) u p ≡ cond (is_at (end_of side c) u p) 1 0 + ended side cs u p
    s = sum_by-cons (λ (x : Chan). cond (is_at (end_of side x) u p) 1 0) c cs

    by : (b : Bool) → is_at (end_of side c) u p ≡ b → (0 < ended side cs u p → 0 < placed side net u p) → 0 < placed side net u p
    by true b rest =
        let k = at_same (end_of side c) u p b in
        let z : 0 < placed side net (end_of side c).unit (end_of side c).place = a 0 (omega arith) in
        let y : placed side net (end_of side c).unit (end_of side c).place ≡ placed side net u p = ap (λ x. placed side net x (end_of side c).place) k.0 ∙ ap (λ x. placed side net u x) k.1 in
        omega arith
    by false b rest =
        let k : ended side (c ∷ cs) u p ≡ 0 + ended side cs u p = s ∙ ap (λ x. cond x 1 0 + ended side cs u p) b in
        rest (omega arith)

pub ended_placed : (side : Side) (net : Net) (u p : ℕ) → All (HasEnds net) net.chans → 0 < ended side net.chans u p → 0 < placed side net u p
ended_placed In net u p a = ends_of In net u p net.chans (λ i l. (a i nowhere l).to)
ended_placed Out net u p a = ends_of Out net u p net.chans (λ i l. (a i nowhere l).from)

-- the rule on one side
pub joined_side : (side : Side) (net : Net) → ((u p : ℕ) → 0 < ended side net.chans u p → 0 < placed side net u p) → AreAlone side net.chans → AreMet side net → AreJoined side net
joined_side side net place alone met = record { each = λ u p. by u p (cases_lt 0 (placed side net u p)) }
  where
    by : (u p : ℕ) → (0 < placed side net u p) ⊎ (placed side net u p ≤ 0) → ended side net.chans u p ≡ placed side net u p
    by u p (inl h) = let a = met.each u p h in let b = placed_most side net u p in let c = alone.each u p in omega arith
    by u p (inr h) = elim (cases_lt 0 (ended side net.chans u p)) [
      | inl x ↦ (let y = place u p x in absurd (omega arith))
      | inr x ↦ (omega arith)
    ]

-- the rule from both sides
pub joined_both : (net : Net) → AreJoined In net → AreJoined Out net → KeepsC1 net
joined_both net i o = record {
  into_each = λ u p. count_map (λ (c : Chan). c.to) (λ q. is_at q u p) net.chans ∙ i.each u p;
  out_of_each = λ u p. count_map (λ (c : Chan). c.from) (λ q. is_at q u p) net.chans ∙ o.each u p;
}

in_count : (net : Net) (u p : ℕ) → times_in (map (λ (c : Chan). c.to) net.chans) u p ≡ ended In net.chans u p
in_count net u p = count_map (λ (c : Chan). c.to) (λ q. is_at q u p) net.chans

out_count : (net : Net) (u p : ℕ) → times_in (map (λ (c : Chan). c.from) net.chans) u p ≡ ended Out net.chans u p
out_count net u p = count_map (λ (c : Chan). c.from) (λ q. is_at q u p) net.chans

-- the lowest unit at whose places two channels end, on either side
abbrev IsTwiceOn : Net → Option ℕ → Type 0
IsTwiceOn net None = (u p : ℕ) → (ended In net.chans u p ≤ 1) × (ended Out net.chans u p ≤ 1)
IsTwiceOn net (Some t) = ((p : ℕ) × ((2 ≤ ended In net.chans t p) ⊎ (2 ≤ ended Out net.chans t p))) × ((u p : ℕ) → u < t → (ended In net.chans u p ≤ 1) × (ended Out net.chans u p ≤ 1))

twice_on : (net : Net) (a b : Option ℕ) → IsTwice In net.chans a → IsTwice Out net.chans b → IsTwiceOn net (lowest a b)
twice_on net None None x y = λ u p. (x u p, y u p)
twice_on net None (Some b) x ((p, two), under) = ((p, inr two), λ u q l. (x u q, under u q l))
twice_on net (Some a) None ((p, two), under) y = ((p, inl two), λ u q l. (under u q l, y u q))
twice_on net (Some a) (Some b) ((p, two), under) ((q, duo), below) = by (nat_lt b a) refl
  where
    by : (x : Bool) → nat_lt b a ≡ x → IsTwiceOn net (cond x (Some b) (Some a))
    by true x = let z : b < a = ltb-true _ _ x in ((q, inr duo), λ u r l. (under u r (omega arith), below u r l))
    by false x = let z : a ≤ b = ltb-false _ _ x in ((p, inl two), λ u r l. (under u r l, below u r (omega arith)))

module _ (net : Net) (ins outs : BTreeSet (ℕ × ℕ)) (s t : Option ℕ) (gi : IsGathered In net.chans ins s) (go : IsGathered Out net.chans outs t) (ends : All (HasEnds net) net.chans) where
  -- a unit whose places are known, no two channels at one, has one channel at each
  joined_unit : (v : ℕ) → IsKnownUnit net ins outs v → ((p : ℕ) → (ended In net.chans v p ≤ 1) × (ended Out net.chans v p ≤ 1)) → IsJoined net v
  joined_unit v k m = record {
    ins = λ p h. (let z : 0 < ended In net.chans v p = ltb-true _ _ (sym (gi.has v p) ∙ k.into.each p h) in let y = (m p).0 in let c = in_count net v p in omega arith);
    outs = λ p h. (let z : 0 < ended Out net.chans v p = ltb-true _ _ (sym (go.has v p) ∙ k.out_of.each p h) in let y = (m p).1 in let c = out_count net v p in omega arith);
  }

  known_joined : (v : ℕ) → IsJoined net v → IsKnownUnit net ins outs v
  known_joined v j = record {
    into = record { each = λ p h. (let z = j.ins p h in let c = in_count net v p in gi.has v p ∙ lt-ltb 0 _ (omega arith)) };
    out_of = record { each = λ p h. (let z = j.outs p h in let c = out_count net v p in go.has v p ∙ lt-ltb 0 _ (omega arith)) };
  }

  unjoined_two : (v p : ℕ) → (2 ≤ ended In net.chans v p) ⊎ (2 ≤ ended Out net.chans v p) → IsUnjoined net v
  unjoined_two v p (inl h) =
      let q = ended_placed In net v p ends (omega arith) in
      record { within = placed_within In net v p q; lacks = λ j. (let a = j.ins p q in let c = in_count net v p in omega arith) }
  unjoined_two v p (inr h) =
      let q = ended_placed Out net v p ends (omega arith) in
      record { within = placed_within Out net v p q; lacks = λ j. (let a = j.outs p q in let c = out_count net v p in omega arith) }

  side_joined : (side : Side) (known : BTreeSet (ℕ × ℕ)) → ((u p : ℕ) → knows known u p ≡ nat_lt 0 (ended side net.chans u p)) → ((u p : ℕ) → ended side net.chans u p ≤ 1) → ((v : ℕ) → v < length net.units → IsKnown side net known v) → AreJoined side net
  side_joined side known has m k = joined_side side net (λ u p. ended_placed side net u p ends) (record { each = m })
      (record { each = λ u p h. ltb-true _ _ (sym (has u p) ∙ (k u (placed_within side net u p h)).each p h) })

  all_joined : ((u p : ℕ) → (ended In net.chans u p ≤ 1) × (ended Out net.chans u p ≤ 1)) → ((v : ℕ) → v < length net.units → IsKnownUnit net ins outs v) → KeepsC1 net
  all_joined m k = joined_both net
      (side_joined In ins gi.has (λ u p. (m u p).0) (λ v l. (k v l).into))
      (side_joined Out outs go.has (λ u p. (m u p).1) (λ v l. (k v l).out_of))

  decides : (o m : Option ℕ) → IsTwiceOn net o → IsMissing net ins outs m → MatchOption (lowest o m) (KeepsC1 net) (IsLowest (IsUnjoined net))
  decides None None a b = all_joined a b
  decides None (Some u) a (w, lacks, below) = record {
    here = record { within = w; lacks = λ j. lacks (known_joined u j) };
    below = λ v l x. x.lacks (joined_unit v (below v l) (λ p. a v p));
  }
  decides (Some o) None ((p, two), under) b =
      let h = unjoined_two o p two in
      record { here = h; below = λ v l x. x.lacks (joined_unit v (b v (let z = h.within in omega arith)) (λ q. under v q l)) }
  decides (Some o) (Some u) ((p, two), under) (w, lacks, below) = pick (nat_lt u o) refl
    where
      pick : (x : Bool) → nat_lt u o ≡ x → MatchOption (cond x (Some u) (Some o)) (KeepsC1 net) (IsLowest (IsUnjoined net))
      pick true x = let z : u < o = ltb-true _ _ x in record {
        here = record { within = w; lacks = λ j. lacks (known_joined u j) };
        below = λ v l y. y.lacks (joined_unit v (below v l) (λ q. under v q (omega arith)));
      }
      pick false x = let z : o ≤ u = ltb-false _ _ x in record {
        here = unjoined_two o p two;
        below = λ v l y. y.lacks (joined_unit v (below v (omega arith)) (λ q. under v q l));
      }

pub unjoined : (net : Net) (cs ds : List Chan) (ins outs : BTreeSet (ℕ × ℕ)) (s t m l r : Option ℕ) → cs ≡ net.chans → ds ≡ net.chans → All (HasEnds net) net.chans → IsGathered In cs ins s → IsGathered Out ds outs t
    → IsMissing net ins outs m → l ≡ lowest s t → r ≡ lowest l m → MatchOption r (KeepsC1 net) (IsLowest (IsUnjoined net))
unjoined net cs ds ins outs s t m l r e f ends i o k a b =
    let P : List Chan → Type 0 = λ xs. IsGathered In xs ins s in
    let Q : List Chan → Type 0 = λ xs. IsGathered Out xs outs t in
    let gi : IsGathered In net.chans ins s = subst P e i in
    let go : IsGathered Out net.chans outs t = subst Q f o in
    let R : Option ℕ → Type 0 = λ x. MatchOption x (KeepsC1 net) (IsLowest (IsUnjoined net)) in
    subst R (sym (b ∙ ap (λ x. lowest x m) a)) (decides net ins outs s t gi go ends (lowest s t) m (twice_on net s t gi.two go.two) k)

pub unjoined_culprit : (net : Net) (o : Option ℕ) (u : ℕ) → All (HasEnds net) net.chans → MatchOption o (KeepsC1 net) (IsLowest (IsUnjoined net)) → o ≡ Some u → CulpritC1 net (at.Unit u)
unjoined_culprit net o u h m e =
    let P : Option ℕ → Type 0 = λ x. MatchOption x (KeepsC1 net) (IsLowest (IsUnjoined net)) in
    (λ c x. x.lacks (h c nowhere x.within), subst P e m)

pub unjoined_none : (net : Net) (o : Option ℕ) → MatchOption o (KeepsC1 net) (IsLowest (IsUnjoined net)) → o ≡ None → KeepsC1 net
unjoined_none net o m e = let P : Option ℕ → Type 0 = λ x. MatchOption x (KeepsC1 net) (IsLowest (IsUnjoined net)) in subst P e m

-- a channel is at its own end
ended_own : (side : Side) (cs : List Chan) (d : ℕ) (x : Place) → d < length cs → x ≡ end_of side (get_or cs d nowhere) → 0 < ended side cs x.unit x.place
ended_own side cs d x l e =
    let a = get_or-le-sum_by (λ (c : Chan). cond (is_at (end_of side c) x.unit x.place) 1 0) cs d nowhere l in
    let b : ◌≡◌ {A = ℕ} (cond (is_at (end_of side (get_or cs d nowhere)) x.unit x.place) 1 0) 1 = ap (λ y. cond (is_at y x.unit x.place) 1 0) (sym e) ∙ ap (λ b. cond b 1 0) (at_itself x) in
    omega arith

pub ended_some : (side : Side) (cs : List Chan) (d : ℕ) → d < length cs → 0 < ended side cs (end_of side (get_or cs d nowhere)).unit (end_of side (get_or cs d nowhere)).place
ended_some side cs d l = ended_own side cs d (end_of side (get_or cs d nowhere)) l refl

pub breaks_places : (net : Net) (x : At) → CulpritC1 net x → KeepsC1 net → ⊥
breaks_places net (at.Unit u) c k = c.1.here.lacks (record {
  ins = λ p h. (let a = k.into_each u p in let b = placed_most In net u p in omega arith);
  outs = λ p h. (let a = k.out_of_each u p in let b = placed_most Out net u p in omega arith);
})
breaks_places net (at.Chan d) c k = c.here.lacks (record {
  from = (let a = k.out_of_each (chan_at net d).from.unit (chan_at net d).from.place in let m = count_map (λ (x : Chan). x.from) (λ q. is_at q (chan_at net d).from.unit (chan_at net d).from.place) net.chans in let b = ended_some Out net.chans d c.here.within in omega arith);
  to = (let a = k.into_each (chan_at net d).to.unit (chan_at net d).to.place in let m = count_map (λ (x : Chan). x.to) (λ q. is_at q (chan_at net d).to.unit (chan_at net d).to.place) net.chans in let b = ended_some In net.chans d c.here.within in omega arith);
})
breaks_places net at.Net c k = c
