-- The numbers of places that rule C1 leaves room for: no more places than channels.
use Rattle.std.proofs.Common.{◌≡◌, inl, inr, ℕ, zero, suc, ◌+◌, ◌*◌, ◌^◌, ◌<◌, ◌≤◌, ◌==◌, ◌&&◌, Bool, true, false, cond, Option, Some, None, List, [], ◌∷◌, length, length-append, get_or, map, refl, sym, ap, subst, ◌∙◌, arith, below_more, IsTrue, ◌↔◌}
use Rattle.std.specs.List.{sum_by}
use Rattle.std.proofs.lemmas.Bool.{cases_lt, cases_eq, ltb-true}
use Rattle.std.proofs.lemmas.List.{length-map}
use Rattle.std.proofs.lemmas.List.Sums.{sum_by-cons, get_or-le-sum_by}
use Rattle.std.specs.BTreeSet.{BTreeSet}
use Rattle.net_types.specs.declared.net.Port.{Port}
use Rattle.net_types.specs.declared.net.Port.TheVariants.{Load, Store}
use Rattle.net_types.specs.declared.net.Place.{Place}
use Rattle.net_types.specs.declared.net.Chan.{Chan}
use Rattle.net_types.specs.declared.net.Net.{Net}
use Rattle.net_types.specs.declared.net.Unit.{Unit as Kind}
use Rattle.net_types.specs.declared.net.Unit.TheVariants.{Fork, Mux, Cmerge, Sink, Lsq}
use Rattle.net_types.specs.Nets.{is_at, at, kind_of}
use Rattle.net_types.specs.Numbered.{AreNumbered}
use Rattle.net_types.specs.Tables.{Spot, spots, ins, outs, port_ins, array_width}
use Rattle.net_types.specs.Rules.{KeepsC1, places_at, in_places_from, out_places_from, in_places, out_places, times_in}
use Rattle.net_check.specs.declared.wires.Side.{Side}
use Rattle.net_check.specs.declared.wires.Side.TheVariants.{In, Out}
use Rattle.net_check.specs.Checks.{AllNumbered}
use Rattle.net_check.specs.private.Bounds.{HasRoom, IsBounded, IsCrowded}
use Rattle.net_check.specs.Shapes.{HasShape, KeepsC7}
use Rattle.net_check.specs.private.Joins.{placed, ended, IsGathered, IsKnown, AreKnownOn, IsKnownUnit, IsMissing}
use Rattle.net_check.specs.private.Widths.{width_in}
use Rattle.net_check.specs.private.Wires.{bound}
use Rattle.net_check.proofs.PeelLemmas.{bit}
use Rattle.net_check.proofs.RowLemmas.{rises-in}
use Rattle.net_check.proofs.PlaceCounts.{one, count_map, count_row, row_here, row_other, placed_at}
use Rattle.net_check.proofs.FirstLemmas.{kind_read, within_same, past_same, read_same}
use Rattle.net_check.proofs.MarkLemmas.{true_iff, false_iff}
use Rattle.net_check.proofs.JoinLemmas.{at_same, at_itself, known_below, known_unit}

-- ---- a list of places that holds each no more often than another is no longer

without : ℕ → ℕ → List Place → List Place
without u p [] = []
without u p (y ∷ ys) = cond (is_at y u p) ys (y ∷ without u p ys)

one_less : (u p : ℕ) (ys : List Place) → 0 < times_in ys u p → length ys ≡ suc (length (without u p ys))
unfolding without
one_less u p [] h = absurd (omega arith)
one_less u p (y ∷ ys) h = by (is_at y u p) refl (one_less u p ys)
  where
    by : (b : Bool) → is_at y u p ≡ b → (0 < times_in ys u p → length ys ≡ suc (length (without u p ys))) → suc (length ys) ≡ suc (length (cond b ys (y ∷ without u p ys)))
    by true e r = refl
    by false e r =
        let s = sum_by-cons (λ q. bit (is_at q u p)) y ys in
        let z : bit (is_at y u p) ≡ 0 = ap bit e in
        ap suc (r (omega arith))

others : (u p v q : ℕ) (ys : List Place) → 0 < times_in ys u p → times_in ys v q ≡ times_in (without u p ys) v q + bit (is_at (at u p) v q)
unfolding without
others u p v q [] h = absurd (omega arith)
others u p v q (y ∷ ys) h = sum_by-cons (λ x. bit (is_at x v q)) y ys ∙ by (is_at y u p) refl (others u p v q ys)
  where
    by : (b : Bool) → is_at y u p ≡ b → (0 < times_in ys u p → times_in ys v q ≡ times_in (without u p ys) v q + bit (is_at (at u p) v q))
        → bit (is_at y v q) + times_in ys v q ≡ times_in (cond b ys (y ∷ without u p ys)) v q + bit (is_at (at u p) v q)
    by true e r =
        let s = at_same y u p e in
        let z : bit (is_at y v q) ≡ bit (is_at (at u p) v q) = ap (λ x. bit ((x == v) && (y.place == q))) s.0 ∙ ap (λ x. bit ((u == v) && (x == q))) s.1 in
        omega arith
    by false e r =
        let s = sum_by-cons (λ x. bit (is_at x u p)) y ys in
        let z : bit (is_at y u p) ≡ 0 = ap bit e in
        let t = sum_by-cons (λ x. bit (is_at x v q)) y (without u p ys) in
        let g = r (omega arith) in
        omega arith

heads : (x : Place) (xs ys : List Place) → ((u p : ℕ) → times_in (x ∷ xs) u p ≤ times_in ys u p) → 0 < times_in ys x.unit x.place
heads x xs ys h =
    let a = sum_by-cons (λ q. bit (is_at q x.unit x.place)) x xs in
    let b = h x.unit x.place in
    let c : bit (is_at x x.unit x.place) ≡ 1 = ap bit (at_itself x) in
    omega arith

tails : (x : Place) (xs ys : List Place) → ((u p : ℕ) → times_in (x ∷ xs) u p ≤ times_in ys u p) → (u p : ℕ) → times_in xs u p ≤ times_in (without x.unit x.place ys) u p
tails x xs ys h u p =
    let a = sum_by-cons (λ q. bit (is_at q u p)) x xs in
    let b = h u p in
    let c = others x.unit x.place u p ys (heads x xs ys h) in
    omega arith

pub no_longer : (xs ys : List Place) → ((u p : ℕ) → times_in xs u p ≤ times_in ys u p) → length xs ≤ length ys
no_longer [] ys h = omega arith
no_longer (x ∷ xs) ys h =
    let l = one_less x.unit x.place ys (heads x xs ys h) in
    let r = no_longer xs (without x.unit x.place ys) (tails x xs ys h) in
    omega arith

-- ---- the places of all units

row_length : (u : ℕ) (ss : List Spot) → length (places_at u ss) ≡ length ss
row_length u ss = length-map ss (λ (s : Spot). at u s.place)

ins_length : (net : Net) (u : ℕ) (ks : List Kind) → length (in_places_from net u ks) ≡ sum_by (λ k. length (ins net false k)) ks
ins_length net u [] = refl
ins_length net u (k ∷ ks) =
    let a = length-append (places_at u (ins net false k)) (in_places_from net (suc u) ks) in
    let b = row_length u (ins net false k) in
    let c = ins_length net (suc u) ks in
    let d = sum_by-cons (λ x. length (ins net false x)) k ks in
    omega arith

outs_length : (net : Net) (u : ℕ) (ks : List Kind) → length (out_places_from net u ks) ≡ sum_by (λ k. length (outs net false k)) ks
outs_length net u [] = refl
outs_length net u (k ∷ ks) =
    let a = length-append (places_at u (outs net false k)) (out_places_from net (suc u) ks) in
    let b = row_length u (outs net false k) in
    let c = outs_length net (suc u) ks in
    let d = sum_by-cons (λ x. length (outs net false x)) k ks in
    omega arith

ins_few : (net : Net) → KeepsC1 net → sum_by (λ k. length (ins net false k)) net.units ≤ length net.chans
ins_few net k =
    let a = ins_length net 0 net.units in
    let b = no_longer (in_places net) (map (λ (c : Chan). c.to) net.chans) (λ u p. (let e = k.into_each u p in omega arith)) in
    let c = length-map net.chans (λ (c : Chan). c.to) in
    omega arith

outs_few : (net : Net) → KeepsC1 net → sum_by (λ k. length (outs net false k)) net.units ≤ length net.chans
outs_few net k =
    let a = outs_length net 0 net.units in
    let b = no_longer (out_places net) (map (λ (c : Chan). c.from) net.chans) (λ u p. (let e = k.out_of_each u p in omega arith)) in
    let c = length-map net.chans (λ (c : Chan). c.from) in
    omega arith

-- ---- the numbers of places of a unit, from how many it has

spots_length : (p w : ℕ) (c : Bool) (n : ℕ) → length (spots p w c n) ≡ n
spots_length p w c zero = refl
spots_length p w c (suc n) = ap suc (spots_length (suc p) w c n)

port_ins_length : (p w : ℕ) (ps : List Port) → length ps ≤ length (port_ins p w ps)
port_ins_length p w [] = omega arith
port_ins_length p w (Load ∷ ps) = let r = port_ins_length (p + 2) w ps in omega arith
port_ins_length p w (Store ∷ ps) = let r = port_ins_length (p + 2) w ps in omega arith

pub queue_ins_length : (net : Net) (a d : ℕ) (ps : List Port) (gs : List (List ℕ)) (f : Bool) → length gs + 1 + length ps ≤ length (ins net false (Lsq a d ps gs f))
queue_ins_length net a d ps gs f =
    let x = length-append (spots 0 32 true (suc (length gs))) (port_ins (length gs + 1) (array_width net.arrays a) ps) in
    let y = spots_length 0 32 true (suc (length gs)) in
    let z = port_ins_length (length gs + 1) (array_width net.arrays a) ps in
    omega arith

in_bound_row : (net : Net) (k : Kind) → bound In k ≤ 2 * length (ins net false k)
in_bound_row net (Mux w n) = let s = spots_length 1 w false n in omega arith
in_bound_row net (Cmerge n) = let s = spots_length 0 32 true n in omega arith
in_bound_row net (Lsq a d ps gs f) = let s = queue_ins_length net a d ps gs f in omega arith
in_bound_row net _ = omega arith

out_bound_row : (net : Net) (k : Kind) → bound Out k ≤ length (outs net false k) + length (ins net false k)
out_bound_row net (Fork w zero) = omega arith
out_bound_row net (Fork w (suc n)) = let s = spots_length 1 w false n in omega arith
out_bound_row net (Lsq a d ps gs f) = let s = queue_ins_length net a d ps gs f in omega arith
out_bound_row net _ = omega arith

in_bounds_sum : (net : Net) (ks : List Kind) → sum_by (bound In) ks ≤ 2 * sum_by (λ k. length (ins net false k)) ks
in_bounds_sum net [] = omega arith
in_bounds_sum net (k ∷ ks) =
    let a = sum_by-cons (bound In) k ks in
    let b = sum_by-cons (λ x. length (ins net false x)) k ks in
    let c = in_bound_row net k in
    let r = in_bounds_sum net ks in
    omega arith

out_bounds_sum : (net : Net) (ks : List Kind) → sum_by (bound Out) ks ≤ sum_by (λ k. length (outs net false k)) ks + sum_by (λ k. length (ins net false k)) ks
out_bounds_sum net [] = omega arith
out_bounds_sum net (k ∷ ks) =
    let a = sum_by-cons (bound Out) k ks in
    let b = sum_by-cons (λ x. length (ins net false x)) k ks in
    let c = sum_by-cons (λ x. length (outs net false x)) k ks in
    let d = out_bound_row net k in
    let r = out_bounds_sum net ks in
    omega arith

pub has_room : (side : Side) (net : Net) → KeepsC1 net → AreNumbered net → HasRoom side net.units
has_room In net k n = let a = in_bounds_sum net net.units in let b = ins_few net k in let c = n.chans in omega arith
has_room Out net k n = let a = out_bounds_sum net net.units in let b = ins_few net k in let d = outs_few net k in let c = n.chans in omega arith

-- one unit of a list has no more numbers than all have
pub bounded_in : (side : Side) (ks : List Kind) (u : ℕ) (k : Kind) → HasRoom side ks → u < length ks → k ≡ get_or ks u k → IsBounded side k
bounded_in side ks u k h l e =
    let a = get_or-le-sum_by (bound side) ks u k l in
    let b : bound side k ≡ bound side (get_or ks u k) = ap (bound side) e in
    omega arith

pub bounded_unit : (side : Side) (net : Net) (us : List Kind) (u : ℕ) (k : Kind) → KeepsC1 net → AreNumbered net → us ≡ net.units → u < length us → k ≡ get_or us u k → IsBounded side k
bounded_unit side net us u k c n s l e =
    let P : List Kind → Type 0 = HasRoom side in
    bounded_in side us u k (subst P (sym s) (has_room side net c n)) l e

-- ---- the ports and groups of a queue have numbers

row_few : (net : Net) (ks : List Kind) (u : ℕ) → u < length ks → length (ins net false (get_or ks u (Sink 0))) ≤ sum_by (λ k. length (ins net false k)) ks
row_few net ks u l = get_or-le-sum_by (λ k. length (ins net false k)) ks u (Sink 0) l

past : (ks : List Kind) (u : ℕ) → length ks ≤ u → get_or ks u (Sink 0) ≡ Sink 0
past [] u l = refl
past (k ∷ ks) zero l = absurd (omega arith)
past (k ∷ ks) (suc u) l = past ks u (omega arith)

queue_few : (net : Net) → KeepsC1 net → (u a d : ℕ) (ps : List Port) (gs : List (List ℕ)) (f : Bool) → kind_of net u ≡ Lsq a d ps gs f → length gs + 1 + length ps ≤ length net.chans
queue_few net k u a d ps gs f e = elim (cases_lt u (length net.units)) [
  | inl l ↦ (let x = row_few net net.units u l in
      let y = ins_few net k in
      let z = queue_ins_length net a d ps gs f in
      let w : length (ins net false (kind_of net u)) ≡ length (ins net false (Lsq a d ps gs f)) = ap (λ q. length (ins net false q)) e in
      omega arith)
  | inr l ↦ (let x : Sink 0 ≡ Lsq a d ps gs f = sym (past net.units u l) ∙ e in cc)
]

pub all_numbered : (net : Net) → KeepsC1 net → AreNumbered net → AllNumbered net
all_numbered net k n = record {
  units = n.units;
  chans = n.chans;
  ports = λ u a d ps gs f e. (let q = queue_few net k u a d ps gs f e in let c = n.chans in omega arith);
  groups = λ u a d ps gs f e. (let q = queue_few net k u a d ps gs f e in let c = n.chans in omega arith);
}

-- ---- a queue with more ports than there are channels lacks a channel

module _ (net : Net) (known : BTreeSet (ℕ × ℕ)) (t : Option ℕ) (u : ℕ) (g : IsGathered In net.chans known t) (l : u < length net.units) (k : IsKnown In net known u) where
  own_times : (p : ℕ) → times_in (places_at u (ins net false (kind_of net u))) u p ≤ times_in (map (λ (c : Chan). c.to) net.chans) u p
  own_times p = by (width_in (ins net false (kind_of net u)) p) refl
    where
      a : times_in (places_at u (ins net false (kind_of net u))) u p ≡ one (width_in (ins net false (kind_of net u)) p)
      a = row_here u p (ins net false (kind_of net u)) ∙ count_row 0 p (ins net false (kind_of net u)) (rises-in net (kind_of net u))

      b : placed In net u p ≡ one (width_in (ins net false (kind_of net u)) p)
      b = placed_at In net u p l

      m : times_in (map (λ (c : Chan). c.to) net.chans) u p ≡ ended In net.chans u p
      m = count_map (λ (c : Chan). c.to) (λ q. is_at q u p) net.chans

      by : (o : Option ℕ) → width_in (ins net false (kind_of net u)) p ≡ o → times_in (places_at u (ins net false (kind_of net u))) u p ≤ times_in (map (λ (c : Chan). c.to) net.chans) u p
      by None e = let z : one (width_in (ins net false (kind_of net u)) p) ≡ 0 = ap one e in omega (arith, a)
      by (Some w) e =
          let z : one (width_in (ins net false (kind_of net u)) p) ≡ 1 = ap one e in
          let x : 0 < placed In net u p = omega (arith, b) in
          let y : 0 < ended In net.chans u p = ltb-true _ _ (sym (g.has u p) ∙ k.each p x) in
          omega (arith, a, m)

  all_times : (v p : ℕ) → times_in (places_at u (ins net false (kind_of net u))) v p ≤ times_in (map (λ (c : Chan). c.to) net.chans) v p
  all_times v p = elim (cases_eq u v) [
    | inl e ↦ subst (λ x. times_in (places_at u (ins net false (kind_of net u))) x p ≤ times_in (map (λ (c : Chan). c.to) net.chans) x p) e (own_times p)
    | inr d ↦ (let z = row_other u v p (ins net false (kind_of net u)) d in omega arith)
  ]

  own_few : length (ins net false (kind_of net u)) ≤ length net.chans
  own_few =
      let a = no_longer (places_at u (ins net false (kind_of net u))) (map (λ (c : Chan). c.to) net.chans) all_times in
      let b = length-map net.chans (λ (c : Chan). c.to) in
      let c = row_length u (ins net false (kind_of net u)) in
      omega arith

crowded_more : (net : Net) (k : Kind) → length (ins net false k) ≤ length net.chans → IsCrowded k (length net.chans) → ⊥
crowded_more net (Lsq a d ps gs f) l (inl h) = let q = queue_ins_length net a d ps gs f in omega arith
crowded_more net (Lsq a d ps gs f) l (inr h) = let q = queue_ins_length net a d ps gs f in omega arith
crowded_more net _ l h = h

pub crowded_lacks : (net : Net) (known : BTreeSet (ℕ × ℕ)) (t : Option ℕ) (u : ℕ) → IsGathered In net.chans known t → u < length net.units → IsCrowded (kind_of net u) (length net.chans) → IsKnown In net known u → ⊥
crowded_lacks net known t u g l h k = crowded_more net (kind_of net u) (own_few net known t u g l k) h

-- another unit, of a shape that is allowed, has few numbers of places
at_most : (m n : ℕ) → (m < n → ⊥) → n ≤ m
at_most m n h = elim (cases_lt m n) [ inl l ↦ absurd (h l) | inr l ↦ l ]

pub bounded_few : (side : Side) (k : Kind) (chans : ℕ) → chans < 2 ^ 32 → HasShape k → (IsCrowded k chans → ⊥) → IsBounded side k
bounded_few In (Mux w n) chans l s h = let m = s.most in omega arith
bounded_few In (Cmerge n) chans l s h = let m = s.most in omega arith
bounded_few In (Lsq a d ps gs f) chans l s h = let p = at_most chans (length ps) (λ x. h (inl x)) in let g = at_most chans (length gs) (λ x. h (inr x)) in omega arith
bounded_few In _ chans l s h = omega arith
bounded_few Out (Fork w n) chans l s h = let m = s.most in omega arith
bounded_few Out (Lsq a d ps gs f) chans l s h = let p = at_most chans (length ps) (λ x. h (inl x)) in let g = at_most chans (length gs) (λ x. h (inr x)) in omega arith
bounded_few Out _ chans l s h = omega arith

-- the unit of number u, read from the list us of units
pub bounded_read : (side : Side) (net : Net) (us : List Kind) (u chans : ℕ) (k : Kind) (b : Bool) → AreNumbered net → KeepsC7 net → us ≡ net.units → u < length us → k ≡ get_or us u k → chans ≡ length net.chans
    → (IsTrue b ↔ IsCrowded k chans) → b ≡ false → IsBounded side k
bounded_read side net us u chans k b n s e l r c d f =
    let m = within_same us net.units u e l in
    let g : k ≡ kind_of net u = kind_read net u k m (read_same us net.units u k e r) in
    let P : Kind → Type 0 = HasShape in
    bounded_few side k chans (let x = n.chans in omega arith) (subst P (sym g) (s.units u (Sink 0) m)) (false_iff b (IsCrowded k chans) d f)

-- the first unit without a channel at one of its places
pub missing_crowded : (net : Net) (ins outs : BTreeSet (ℕ × ℕ)) (t : Option ℕ) (us : List Kind) (u chans : ℕ) (k : Kind) (b : Bool) → IsGathered In net.chans ins t → us ≡ net.units → u < length us → k ≡ get_or us u k → chans ≡ length net.chans
    → (IsTrue b ↔ IsCrowded k chans) → b ≡ true → ((v : ℕ) → v < u → IsKnownUnit net ins outs v) → IsMissing net ins outs (Some u)
missing_crowded net ins outs t us u chans k b g e l r c d f inv =
    let m = within_same us net.units u e l in
    let q : k ≡ kind_of net u = kind_read net u k m (read_same us net.units u k e r) in
    let P : Kind → Type 0 = λ x. IsCrowded x chans in
    let Q : ℕ → Type 0 = λ x. IsCrowded (kind_of net u) x in
    (m, λ x. crowded_lacks net ins t u g m (subst Q c (subst P q (true_iff b (IsCrowded k chans) d f))) x.into, inv)

pub missing_unit : (net : Net) (ins outs : BTreeSet (ℕ × ℕ)) (us : List Kind) (u : ℕ) (k : Kind) (b : Bool) → us ≡ net.units → u < length us → k ≡ get_or us u k
    → (IsTrue b ↔ AreKnownOn net ins outs u k) → b ≡ false → ((v : ℕ) → v < u → IsKnownUnit net ins outs v) → IsMissing net ins outs (Some u)
missing_unit net ins outs us u k b e l r d f inv =
    (within_same us net.units u e l, λ x. false_iff b (AreKnownOn net ins outs u k) d f (record { into = known_below In net ins u (bound In k) x.into; out_of = known_below Out net outs u (bound Out k) x.out_of }), inv)

pub known_next : (net : Net) (ins outs : BTreeSet (ℕ × ℕ)) (us : List Kind) (u : ℕ) (k : Kind) (b : Bool) → us ≡ net.units → u < length us → k ≡ get_or us u k
    → (IsTrue b ↔ AreKnownOn net ins outs u k) → b ≡ true → ((v : ℕ) → v < u → IsKnownUnit net ins outs v) → (v : ℕ) → v < u + 1 → IsKnownUnit net ins outs v
known_next net ins outs us u k b e l r d t inv =
    let m = within_same us net.units u e l in
    let q : k ≡ kind_of net u = kind_read net u k m (read_same us net.units u k e r) in
    let a : AreKnownOn net ins outs u k = true_iff b (AreKnownOn net ins outs u k) d t in
    below_more _ _ inv (record { into = known_unit In net ins u (bound In k) (ap (bound In) q) a.into; out_of = known_unit Out net outs u (bound Out k) (ap (bound Out) q) a.out_of })

pub none_missing : (net : Net) (ins outs : BTreeSet (ℕ × ℕ)) (us : List Kind) (u : ℕ) → us ≡ net.units → length us ≤ u → ((v : ℕ) → v < u → IsKnownUnit net ins outs v) → IsMissing net ins outs None
none_missing net ins outs us u e l inv v h = let z = past_same us net.units u e l in inv v (omega arith)
