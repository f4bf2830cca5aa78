-- Places of units and channels among those of their workers.
use Rattle.std.proofs.Common.{◌≡◌, ◌⊎◌, inl, inr, ℕ, zero, suc, ◌+◌, ◌<◌, ◌≤◌, ◌^◌, ◌==◌, ◌||◌, Bool, true, false, cond, All, List, [], ◌∷◌, ◌++◌, length, get_or, replicate, refl, sym, ap, subst, ◌∙◌, arith, eq-eqb, length-append}
use Rattle.std.proofs.lemmas.Bool.{cases_lt}
use Rattle.std.proofs.lemmas.List.{get_or_append_left, get_or_at, get_or_past, length-replicate}
use Rattle.std.proofs.lemmas.List.Elements.{All-get_or}
use Rattle.el_base.specs.Limits.{max_workers}
use Rattle.net_types.specs.declared.net.Chan.{Chan}
use Rattle.net_types.specs.declared.net.Net.{Net}
use Rattle.net_types.specs.Nets.{chan_at, nowhere}
use Rattle.net_check.specs.Checks.{IsChecked}
use Rattle.net_worker.specs.ChannelEnds.{StandsAt}
use Rattle.net_worker.specs.Places.{AreCounts, ArePlacesOf, AreValues, HasCounted, chans_of, has_end, numbers_where, owns_unit, put_place, take_place, unit_place, units_of}
use Rattle.net_worker.specs.Plays.{putter, taker}
use Rattle.net_worker.specs.declared.places.Places.{Places}

-- one more number
pub count_more : (f : ℕ → Bool) (n : ℕ) → length (numbers_where f (suc n)) ≡ length (numbers_where f n) + cond (f n) 1 0
count_more f n = length-append (numbers_where f n) (cond (f n) (n ∷ []) []) ∙ ap (λ k. length (numbers_where f n) + k) (by (f n))
  where
    by : (b : Bool) → length (cond b (n ∷ []) []) ≡ cond b 1 0
    by true = refl
    by false = refl

-- no more than all numbers below n
pub count_most : (f : ℕ → Bool) (n : ℕ) → length (numbers_where f n) ≤ n
count_most f zero = omega arith
count_most f (suc n) = let a = count_more f n in let b = count_most f n in let d = by (f n) in omega (arith, a, b, d)
  where
    by : (b : Bool) → cond b 1 0 ≤ 1
    by true = omega arith
    by false = omega arith

-- a number stands behind those before it
pub stands_where : (f : ℕ → Bool) (n m : ℕ) → n < m → f n ≡ true → StandsAt (numbers_where f m) n (length (numbers_where f n))
stands_where f n zero l e = absurd (omega (arith, l))
stands_where f n (suc m) l e = by (stands_where f n m) (cases_lt n m)
  where
    long : length (numbers_where f (suc m)) ≡ length (numbers_where f m) + cond (f m) 1 0
    long = count_more f m

    by : (n < m → f n ≡ true → StandsAt (numbers_where f m) n (length (numbers_where f n))) → (n < m) ⊎ (m ≤ n) → StandsAt (numbers_where f (suc m)) n (length (numbers_where f n))
    by before (inl k) =
        let h = before k e in
        (omega (arith, h.0, long), get_or_append_left (numbers_where f m) (cond (f m) (m ∷ []) []) 0 (length (numbers_where f n)) h.0 ∙ h.1)
    by before (inr k) =
        let same : n ≡ m = omega (arith, k, l) in
        let one : ◌≡◌ {A = ℕ} (cond (f m) 1 0) 1 = ap (λ j. cond (f j) 1 0) (sym same) ∙ ap (λ b. cond b 1 0) e in
        let tail : cond (f m) (m ∷ []) [] ≡ n ∷ [] = ap (λ j. cond (f j) (j ∷ []) []) (sym same) ∙ ap (λ b. cond b (n ∷ []) []) e in
        let count : length (numbers_where f n) ≡ length (numbers_where f m) = ap (λ j. length (numbers_where f j)) same in
        (omega (arith, count, one, long), ap (λ xs. get_or (numbers_where f m ++ xs) (length (numbers_where f n)) 0) tail ∙ get_or_at (numbers_where f m) n [] 0 (length (numbers_where f n)) (sym count))

-- no number is counted yet
pub counts_none : (f : ℕ → ℕ → Bool) (counts : List ℕ) → counts ≡ replicate max_workers 0 → AreCounts f 0 counts
counts_none f counts is = record {
  long = ap length is ∙ length-replicate {A = ℕ} max_workers 0;
  each = λ j l. ap (λ xs. get_or xs j 0) is ∙ none max_workers j;
}
  where
    none : (n j : ℕ) → get_or (replicate {A = ℕ} n 0) j 0 ≡ 0
    none zero j = refl
    none (suc n) zero = refl
    none (suc n) (suc j) = none n j

-- one more number is counted
pub counts_more : (f : ℕ → ℕ → Bool) (n : ℕ) (old new : List ℕ) (more : ℕ → Bool) → AreCounts f n old → HasCounted old new more → ((j : ℕ) → more j ≡ f j n) → AreCounts f (n + 1) new
counts_more f n old new more h counted same = record {
  long = counted.long ∙ h.long;
  each = λ j l. counted.each j (subst (λ m. j < m) (sym h.long) l) ∙ ((λ i. h.each j l i + cond (same j i) 1 0) ∙ (sym (count_more (f j) n) ∙ next j));
}
  where
    next : (j : ℕ) → length (numbers_where (f j) (suc n)) ≡ length (numbers_where (f j) (n + 1))
    next j = let e : suc n ≡ n + 1 = omega arith in ap (λ m. length (numbers_where (f j) m)) e

-- a count has room for one more
pub count_room : (f : ℕ → ℕ → Bool) (n m : ℕ) (counts : List ℕ) (j : ℕ) → AreCounts f n counts → n < m → m < 2 ^ 32 → get_or counts j 0 + 1 < 2 ^ 32
count_room f n m counts j h l few = by (cases_lt j max_workers)
  where
    by : (j < max_workers) ⊎ (max_workers ≤ j) → get_or counts j 0 + 1 < 2 ^ 32
    by (inl k) = let a = h.each j k in let b = count_most (f j) n in omega (arith, a, b, l, few)
    by (inr k) = let a : get_or counts j 0 ≡ 0 = get_or_past counts j 0 (subst (λ x. x ≤ j) (sym h.long) k) in omega (arith, a)

-- one more value
pub values_more : (f : ℕ → ℕ) (n x : ℕ) (values new : List ℕ) → new ≡ values ++ x ∷ [] → x ≡ f n → AreValues f n values → AreValues f (n + 1) new
values_more f n x values new is e h = record {
  long = (let a = ap length is in let b = length-append values (x ∷ []) in let d = h.long in omega (arith, a, b, d));
  each = λ i l. ap (λ xs. get_or xs i 0) is ∙ by i l (cases_lt i n);
}
  where
    by : (i : ℕ) → i < n + 1 → (i < n) ⊎ (n ≤ i) → get_or (values ++ x ∷ []) i 0 ≡ f i
    by i l (inl k) = get_or_append_left values (x ∷ []) 0 i (subst (λ m. i < m) (sym h.long) k) ∙ h.each i k
    by i l (inr k) = let same : n ≡ i = omega (arith, k, l) in get_or_at values x [] 0 i (h.long ∙ same) ∙ (e ∙ ap f same)

-- the owner of a unit is one of the workers
pub owner_few : (owners : List ℕ) (u : ℕ) → All (λ o. o < max_workers) owners → u < length owners → get_or owners u 0 < max_workers
owner_few owners u few l = All-get_or (λ o. o < max_workers) owners u 0 l few

-- the places that are told
pub places_of : (net : Net) (owners : List ℕ) (p : Places) → AreValues (unit_place owners) (length owners) p.units.items → AreValues (put_place net owners) (length net.chans) p.outs.items
    → AreValues (take_place net owners) (length net.chans) p.ins.items → ArePlacesOf net owners p
places_of net owners p units outs ins = record {
  units_long = units.long;
  outs_long = outs.long;
  ins_long = ins.long;
  unit = λ u l. subst (StandsAt (units_of owners (get_or owners u 0)) u) (sym (units.each u l)) (stands_where (owns_unit owners (get_or owners u 0)) u (length owners) l (same (get_or owners u 0)));
  out = λ c l. subst (StandsAt (chans_of net owners (putter net (λ u. get_or owners u 0) c)) c) (sym (outs.each c l))
      (stands_where (has_end net owners (putter net (λ u. get_or owners u 0) c)) c (length net.chans) l (left _ _ (same (putter net (λ u. get_or owners u 0) c))));
  into = λ c l. subst (StandsAt (chans_of net owners (taker net (λ u. get_or owners u 0) c)) c) (sym (ins.each c l))
      (stands_where (has_end net owners (taker net (λ u. get_or owners u 0) c)) c (length net.chans) l (right _ _ (same (taker net (λ u. get_or owners u 0) c))));
}
  where
    same : (j : ℕ) → (j == j) ≡ true
    same j = eq-eqb j j refl

    left : (a b : Bool) → a ≡ true → (a || b) ≡ true
    left a b e = ap (λ x. x || b) e

    right : (a b : Bool) → b ≡ true → (a || b) ≡ true
    right true b e = refl
    right false b e = e

-- the workers at both ends of a channel that the code reads
pub ends_few : (net : Net) (owners : List ℕ) (n : ℕ) (chans : List Chan) → IsChecked net → length owners ≡ length net.units → All (λ o. o < max_workers) owners → chans ≡ net.chans → n < length chans
    → (get_or owners (get_or chans n nowhere).from.unit 0 < max_workers) × (get_or owners (get_or chans n nowhere).to.unit 0 < max_workers)
ends_few net owners n chans checked long few same l =
    let w : n < length net.chans = subst (λ (xs : List Chan). n < length xs) same l in
    let P : List Chan → Type 0 = λ xs. (get_or owners (get_or xs n nowhere).from.unit 0 < max_workers) × (get_or owners (get_or xs n nowhere).to.unit 0 < max_workers) in
    subst P (sym same) (
      owner_few owners (chan_at net n).from.unit few (subst (λ m. (chan_at net n).from.unit < m) (sym long) (checked.within.from n w)),
      owner_few owners (chan_at net n).to.unit few (subst (λ m. (chan_at net n).to.unit < m) (sym long) (checked.within.to n w)),
    )

-- the count of the worker at one of them
pub end_value : (net : Net) (owners : List ℕ) (n x : ℕ) (counts : List ℕ) (chans : List Chan) (side : Chan → ℕ) → AreCounts (has_end net owners) n counts → chans ≡ net.chans
    → get_or owners (side (get_or chans n nowhere)) 0 < max_workers → x ≡ get_or counts (get_or owners (side (get_or chans n nowhere)) 0) 0
    → x ≡ length (numbers_where (has_end net owners (get_or owners (side (chan_at net n)) 0)) n)
end_value net owners n x counts chans side h same few e =
    e ∙ (h.each (get_or owners (side (get_or chans n nowhere)) 0) few ∙ ap (λ xs. length (numbers_where (has_end net owners (get_or owners (side (get_or xs n nowhere)) 0)) n)) same)

-- the workers that are counted
pub ends_more : (net : Net) (owners : List ℕ) (n : ℕ) (chans : List Chan) → chans ≡ net.chans → (j : ℕ)
    → (get_or owners (get_or chans n nowhere).from.unit 0 == j || get_or owners (get_or chans n nowhere).to.unit 0 == j) ≡ has_end net owners j n
ends_more net owners n chans same j = ap (λ xs. get_or owners (get_or xs n nowhere).from.unit 0 == j || get_or owners (get_or xs n nowhere).to.unit 0 == j) same
