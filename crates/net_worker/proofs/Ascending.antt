-- The merged log is the one list of all entries in ascending order.
use Rattle.std.proofs.Common.{◌≡◌, ◌⊎◌, inl, inr, ℕ, zero, suc, ◌+◌, ◌<◌, ◌≤◌, ◌==◌, Bool, true, false, cond, nat_lt, List, [], ◌∷◌, length, get_or, set, map, Option, Some, None, refl, ap, ◌∙◌, sym, subst, arith, eq-eqb, ne_eqb, get_or-set_same, get_or-set_other}
use Rattle.std.specs.List.{All, AllPairs, filter}
use Rattle.std.proofs.lemmas.Grind.{common_steps}
use Rattle.std.proofs.lemmas.Bool.{cases_eq, cases_lt}
use Rattle.std.proofs.lemmas.List.Kept.{AllPairs-cons}
use Rattle.net_types.specs.declared.firing.Firing.{Firing}
use Rattle.net_worker.specs.Merged.{Head, earlier, earliest, go_on, merged_in, entries_of, RisesFrom}
use Rattle.net_worker.specs.Ascending.{LoggedEntry, entries_by, IsNotAfter, IsInOrder, MergedAscends}
use Rattle.firing_log.specs.declared.entry.Entry.{Entry}
use Rattle.net_worker.proofs.Logs.{earliest_none, earliest_is, entries_set, none_left, rises_later}

abbrev of : ℕ → Entry → LoggedEntry
of w e = record { worker = w; entry = e }

-- ---- the earliest head comes before all others

pub record IsFirst (i v : ℕ) (h : Head) (e : Entry) : Type 0 where
  pub stamps : h.entry.stamp ≤ e.stamp
  pub workers : h.entry.stamp ≡ e.stamp → h.at ≤ i + v

same_head : (e f : Entry) (es fs : List Entry) → e ∷ es ≡ f ∷ fs → e ≡ f
same_head e f es fs q = cc

head_first : (i : ℕ) (logs : List (List Entry)) (h : Head) → earliest i logs ≡ Some h → (v : ℕ) (e : Entry) (es : List Entry) → get_or logs v [] ≡ e ∷ es → IsFirst i v h e
head_first i [] h q v e es k = cc
head_first i ([] ∷ ls) h q zero e es k = cc
head_first i ([] ∷ ls) h q (suc v) e es k =
    let r = head_first (suc i) ls h q v e es k in record { stamps = r.stamps; workers = λ z. (let w = r.workers z in omega arith) }
head_first i ((f ∷ fs) ∷ ls) h q v e es k = by (earliest (suc i) ls) refl q (head_first (suc i) ls) (earliest_none (suc i) ls)
  where
    mine : Head
    mine = record { at = i; entry = f; rest = fs }

    -- where the head of this log is chosen
    chosen : mine ≡ h → ((u : ℕ) (g : Entry) (gs : List Entry) → get_or ls u [] ≡ g ∷ gs → f.stamp ≤ g.stamp) → IsFirst i v h e
    chosen z others = subst (λ h. IsFirst i v h e) z (at v k)
      where
        at : (u : ℕ) → get_or ((f ∷ fs) ∷ ls) u [] ≡ e ∷ es → IsFirst i u mine e
        at zero x = (let y = ap (λ (w : Entry). w.stamp) (same_head f e fs es x) in record { stamps = omega arith; workers = λ z. omega arith })
        at (suc u) x = (let y = others u e es x in record { stamps = y; workers = λ z. omega arith })

    by : (o : Option Head) → earliest (suc i) ls ≡ o → earlier (Some mine) o ≡ Some h
        → ((b : Head) → earliest (suc i) ls ≡ Some b → (u : ℕ) (g : Entry) (gs : List Entry) → get_or ls u [] ≡ g ∷ gs → IsFirst (suc i) u b g)
        → (earliest (suc i) ls ≡ None → (u : ℕ) → get_or ls u [] ≡ []) → IsFirst i v h e
    by None is z known none = chosen (let y : mine ≡ h = cc in y) (λ u g gs x. (let y = none is u in absurd (let w : g ∷ gs ≡ [] = sym x ∙ y in cc)))
    by (Some b) is z known none = at (cases_lt b.entry.stamp f.stamp)
      where
        one : Bool → Option Head
        one c = cond c (Some b) (Some mine)

        at : (b.entry.stamp < f.stamp) ⊎ (f.stamp ≤ b.entry.stamp) → IsFirst i v h e
        at (inl l) =
            let t : nat_lt b.entry.stamp f.stamp ≡ true = grind (arith, common_steps) in
            let w : Some b ≡ Some h = sym (ap one t) ∙ z in
            let y : b ≡ h = cc in
            subst (λ h. IsFirst i v h e) y (there v k)
          where
            there : (u : ℕ) → get_or ((f ∷ fs) ∷ ls) u [] ≡ e ∷ es → IsFirst i u b e
            there zero x = (let y = ap (λ (w : Entry). w.stamp) (same_head f e fs es x) in record { stamps = omega arith; workers = λ z. absurd (omega arith) })
            there (suc u) x = (let y = known b is u e es x in record { stamps = y.stamps; workers = λ z. (let w = y.workers z in omega arith) })
        at (inr l) =
            let t : nat_lt b.entry.stamp f.stamp ≡ false = grind (arith, common_steps) in
            let w : Some mine ≡ Some h = sym (ap one t) ∙ z in
            let y : mine ≡ h = cc in
            chosen y (λ u g gs x. (let s = (known b is u g gs x).stamps in omega arith))

-- ---- the merged entries

abbrev placed_on : Option Head → (Head → List LoggedEntry) → List LoggedEntry
placed_on None rest = []
placed_on (Some h) rest = rest h

abbrev placed_in : ℕ → List (List Entry) → List LoggedEntry
placed_in zero logs = []
placed_in (suc fuel) logs = placed_on (earliest 0 logs) (λ h. of h.at h.entry ∷ placed_in fuel (set logs h.at h.rest))

abbrev firing_of : LoggedEntry → Firing
firing_of x = x.entry.firing

firings_in : (fuel : ℕ) (logs : List (List Entry)) → merged_in fuel logs ≡ map firing_of (placed_in fuel logs)
firings_in zero logs = refl
firings_in (suc fuel) logs = by (earliest 0 logs) (firings_in fuel)
  where
    by : (o : Option Head) → ((ls : List (List Entry)) → merged_in fuel ls ≡ map firing_of (placed_in fuel ls))
        → go_on o (λ h. h.entry.firing ∷ merged_in fuel (set logs h.at h.rest)) ≡ map firing_of (placed_on o (λ h. of h.at h.entry ∷ placed_in fuel (set logs h.at h.rest)))
    by None more = refl
    by (Some h) more = ap (λ l. h.entry.firing ∷ l) (more (set logs h.at h.rest))

-- ---- the entries of one worker

abbrev entry_of : LoggedEntry → Entry
entry_of x = x.entry

pub by_same : (w : ℕ) (x : LoggedEntry) (xs : List LoggedEntry) → x.worker ≡ w → entries_by w (x ∷ xs) ≡ x.entry ∷ entries_by w xs
by_same w x xs q = ap (λ b. map entry_of (cond b (x ∷ filter (λ (x : LoggedEntry). x.worker == w) xs) (filter (λ (x : LoggedEntry). x.worker == w) xs))) (eq-eqb x.worker w q)

pub by_other : (w : ℕ) (x : LoggedEntry) (xs : List LoggedEntry) → (x.worker ≡ w → ⊥) → entries_by w (x ∷ xs) ≡ entries_by w xs
by_other w x xs q = ap (λ b. map entry_of (cond b (x ∷ filter (λ (x : LoggedEntry). x.worker == w) xs) (filter (λ (x : LoggedEntry). x.worker == w) xs))) (ne_eqb x.worker w q)

-- what is left of the logs after the earliest head
pub record Rest (logs : List (List Entry)) (h : Head) : Type 0 where
  pub within : h.at < length logs
  pub here : get_or logs h.at [] ≡ h.entry ∷ h.rest
  pub first : (v : ℕ) (e : Entry) (es : List Entry) → get_or logs v [] ≡ e ∷ es → IsFirst 0 v h e

rest_of : (logs : List (List Entry)) (h : Head) → earliest 0 logs ≡ Some h → Rest logs h
rest_of logs h is =
    let r = earliest_is 0 logs h is in
    let place : h.at ≡ r.place = omega (arith, r.at) in
    record { within = omega (arith, r.within, place); here = ap (λ k. get_or logs k []) place ∙ r.here; first = head_first 0 logs h is }

left_here : (logs : List (List Entry)) (h : Head) → Rest logs h → get_or (set logs h.at h.rest) h.at [] ≡ h.rest
left_here logs h r = get_or-set_same logs h.at h.rest [] r.within

left_there : (logs : List (List Entry)) (h : Head) (v : ℕ) → (h.at ≡ v → ⊥) → get_or (set logs h.at h.rest) v [] ≡ get_or logs v []
left_there logs h v n = get_or-set_other logs h.at v h.rest [] (λ z. n (sym z))

each_in : (fuel : ℕ) (logs : List (List Entry)) → entries_of logs ≤ fuel → (w : ℕ) → entries_by w (placed_in fuel logs) ≡ get_or logs w []
each_in zero logs few w = sym (none_left logs (omega arith) w)
each_in (suc fuel) logs few w = by (earliest 0 logs) refl (each_in fuel)
  where
    Goal : Option Head → Type 0
    Goal o = entries_by w (placed_on o (λ h. of h.at h.entry ∷ placed_in fuel (set logs h.at h.rest))) ≡ get_or logs w []

    by : (o : Option Head) → earliest 0 logs ≡ o → ((ls : List (List Entry)) → entries_of ls ≤ fuel → (w : ℕ) → entries_by w (placed_in fuel ls) ≡ get_or ls w []) → Goal (earliest 0 logs)
    by None is more = subst Goal (sym is) (sym (earliest_none 0 logs is w))
    by (Some h) is more = subst Goal (sym is) (at (cases_eq h.at w))
      where
        r : Rest logs h
        r = rest_of logs h is

        rest : entries_by w (placed_in fuel (set logs h.at h.rest)) ≡ get_or (set logs h.at h.rest) w []
        rest = more (set logs h.at h.rest) (omega (arith, entries_set logs h.at h.entry h.rest r.within r.here)) w

        at : (h.at ≡ w) ⊎ (h.at ≡ w → ⊥) → Goal (Some h)
        at (inl q) =
            by_same w (of h.at h.entry) (placed_in fuel (set logs h.at h.rest)) q
            ∙ (ap (λ l. h.entry ∷ l) (rest ∙ (ap (λ k. get_or (set logs h.at h.rest) k []) (sym q) ∙ left_here logs h r))
            ∙ (sym r.here ∙ ap (λ k. get_or logs k []) q))
        at (inr n) = by_other w (of h.at h.entry) (placed_in fuel (set logs h.at h.rest)) n ∙ (rest ∙ left_there logs h w n)

-- ---- the order

-- no entry of the list, as one of this worker's, comes before x
abbrev pub AllAfter : LoggedEntry → ℕ → List Entry → Type 0
AllAfter x w [] = Unit {0}
AllAfter x w (e ∷ es) = IsNotAfter x (of w e) × AllAfter x w es

all_none : {X : Type 0} (P : X → Type 0) → All P []
all_none P k d l = absurd (omega arith)

all_cons : {X : Type 0} (P : X → Type 0) (x : X) (xs : List X) → P x → All P xs → All P (x ∷ xs)
all_cons P x xs p a zero d l = p
all_cons P x xs p a (suc k) d l = a k d (omega arith)

after_left : (x : LoggedEntry) (logs : List (List Entry)) (h : Head) → Rest logs h → ((v : ℕ) → AllAfter x v (get_or logs v [])) → (v : ℕ) → AllAfter x v (get_or (set logs h.at h.rest) v [])
after_left x logs h r all v = by (cases_eq h.at v)
  where
    by : (h.at ≡ v) ⊎ (h.at ≡ v → ⊥) → AllAfter x v (get_or (set logs h.at h.rest) v [])
    by (inl q) =
        subst (λ k. AllAfter x k (get_or (set logs h.at h.rest) k [])) q
        (subst (AllAfter x h.at) (sym (left_here logs h r)) (subst (AllAfter x h.at) r.here (all h.at)).1)
    by (inr n) = subst (AllAfter x v) (sym (left_there logs h v n)) (all v)

after_in : (x : LoggedEntry) (fuel : ℕ) (logs : List (List Entry)) → ((v : ℕ) → AllAfter x v (get_or logs v [])) → All (IsNotAfter x) (placed_in fuel logs)
after_in x zero logs all = all_none (IsNotAfter x)
after_in x (suc fuel) logs all = by (earliest 0 logs) refl (after_in x fuel)
  where
    Goal : Option Head → Type 0
    Goal o = All (IsNotAfter x) (placed_on o (λ h. of h.at h.entry ∷ placed_in fuel (set logs h.at h.rest)))

    by : (o : Option Head) → earliest 0 logs ≡ o → ((ls : List (List Entry)) → ((v : ℕ) → AllAfter x v (get_or ls v [])) → All (IsNotAfter x) (placed_in fuel ls)) → Goal (earliest 0 logs)
    by None is more = subst Goal (sym is) (all_none (IsNotAfter x))
    by (Some h) is more =
        let r = rest_of logs h is in
        subst Goal (sym is)
        (all_cons (IsNotAfter x) (of h.at h.entry) (placed_in fuel (set logs h.at h.rest)) (subst (AllAfter x h.at) r.here (all h.at)).0 (more (set logs h.at h.rest) (after_left x logs h r all)))

-- entries whose stamps never fall from n on
risen_after : (x : LoggedEntry) (w n : ℕ) (es : List Entry) → x.entry.stamp ≤ n → (x.entry.stamp ≡ n → x.worker ≤ w) → RisesFrom n es → AllAfter x w es
risen_after x w n [] le tie r = tt
risen_after x w n (e ∷ es) le tie r = (
  record { stamps = omega (arith, r.0); workers = λ q. tie (omega (arith, r.0)) },
  risen_after x w e.stamp es (omega (arith, r.0)) (λ q. tie (omega (arith, r.0))) r.1,
)

log_after : (x : LoggedEntry) (w : ℕ) (l : List Entry) → RisesFrom 0 l → ((e : Entry) (es : List Entry) → l ≡ e ∷ es → IsNotAfter x (of w e)) → AllAfter x w l
log_after x w [] r h = tt
log_after x w (e ∷ es) r h = (let a = h e es refl in (a, risen_after x w e.stamp es a.stamps a.workers r.1))

head_after : (logs : List (List Entry)) (h : Head) → Rest logs h → ((v : ℕ) → RisesFrom 0 (get_or logs v [])) → (v : ℕ) → AllAfter (of h.at h.entry) v (get_or logs v [])
head_after logs h r rise v =
    log_after (of h.at h.entry) v (get_or logs v []) (rise v)
    (λ e es q. (let f = r.first v e es q in record { stamps = f.stamps; workers = λ z. (let w = f.workers z in omega arith) }))

risen_left : (logs : List (List Entry)) (h : Head) → Rest logs h → ((v : ℕ) → RisesFrom 0 (get_or logs v [])) → (v : ℕ) → RisesFrom 0 (get_or (set logs h.at h.rest) v [])
risen_left logs h r rise v = by (cases_eq h.at v)
  where
    by : (h.at ≡ v) ⊎ (h.at ≡ v → ⊥) → RisesFrom 0 (get_or (set logs h.at h.rest) v [])
    by (inl q) =
        subst (λ k. RisesFrom 0 (get_or (set logs h.at h.rest) k [])) q
        (subst (RisesFrom 0) (sym (left_here logs h r)) (rises_later 0 h.entry h.rest (subst (RisesFrom 0) r.here (rise h.at))))
    by (inr n) = subst (RisesFrom 0) (sym (left_there logs h v n)) (rise v)

no_pairs : {X : Type 0} (R : X → X → Type 0) → AllPairs R []
no_pairs R i j d l k = absurd (omega arith)

ascends_in : (fuel : ℕ) (logs : List (List Entry)) → ((v : ℕ) → RisesFrom 0 (get_or logs v [])) → AllPairs IsNotAfter (placed_in fuel logs)
ascends_in zero logs rise = no_pairs IsNotAfter
ascends_in (suc fuel) logs rise = by (earliest 0 logs) refl (ascends_in fuel)
  where
    Goal : Option Head → Type 0
    Goal o = AllPairs IsNotAfter (placed_on o (λ h. of h.at h.entry ∷ placed_in fuel (set logs h.at h.rest)))

    by : (o : Option Head) → earliest 0 logs ≡ o → ((ls : List (List Entry)) → ((v : ℕ) → RisesFrom 0 (get_or ls v [])) → AllPairs IsNotAfter (placed_in fuel ls)) → Goal (earliest 0 logs)
    by None is more = subst Goal (sym is) (no_pairs IsNotAfter)
    by (Some h) is more =
        let r = rest_of logs h is in
        let rest = set logs h.at h.rest in
        let x = of h.at h.entry in
        subst Goal (sym is) (AllPairs-cons IsNotAfter x (placed_in fuel rest) (after_in x fuel rest (after_left x logs h r (head_after logs h r rise))) (more rest (risen_left logs h r rise)))

-- ---- one such list

tail_pairs : {X : Type 0} (R : X → X → Type 0) (x : X) (xs : List X) → AllPairs R (x ∷ xs) → AllPairs R xs
tail_pairs R x xs a i j d l k = a (suc i) (suc j) d (omega arith) (omega arith)

first_pairs : {X : Type 0} (R : X → X → Type 0) (x : X) (xs : List X) → AllPairs R (x ∷ xs) → All (R x) xs
first_pairs R x xs a k d l = a zero (suc k) d (omega arith) (omega arith)

-- what holds of all holds of the first entry of a worker
holds_of : (P : LoggedEntry → Type 0) (w : ℕ) (e : Entry) (es : List Entry) (xs : List LoggedEntry) → All P xs → entries_by w xs ≡ e ∷ es → P (of w e)
holds_of P w e es [] a q = cc
holds_of P w e es (x ∷ xs) a q = by (cases_eq x.worker w) (holds_of P w e es xs (λ k d l. a (suc k) d (omega arith)))
  where
    by : (x.worker ≡ w) ⊎ (x.worker ≡ w → ⊥) → (entries_by w xs ≡ e ∷ es → P (of w e)) → P (of w e)
    by (inl z) more =
        let same : x.entry ≡ e = same_head x.entry e (entries_by w xs) es (sym (by_same w x xs z) ∙ q) in
        subst (λ u. P (of u e)) z (subst (λ f. P (of x.worker f)) same (a 0 x (omega arith)))
    by (inr n) more = more (sym (by_other w x xs n) ∙ q)

itself : (x : LoggedEntry) → IsNotAfter x x
itself x = record { stamps = omega arith; workers = λ q. omega arith }

-- the first comes before the first of any other list of the same entries
first_before : (x y : LoggedEntry) (xs ys : List LoggedEntry) → AllPairs IsNotAfter (y ∷ ys) → ((w : ℕ) → entries_by w (x ∷ xs) ≡ entries_by w (y ∷ ys)) → IsNotAfter y x
first_before x y xs ys a same =
    holds_of (IsNotAfter y) x.worker x.entry (entries_by x.worker xs) (y ∷ ys) (all_cons (IsNotAfter y) y ys (itself y) (first_pairs IsNotAfter y ys a))
    (sym (same x.worker) ∙ by_same x.worker x xs refl)

same_tail : (e f : Entry) (es fs : List Entry) → e ∷ es ≡ f ∷ fs → es ≡ fs
same_tail e f es fs q = cc

one_list : (xs ys : List LoggedEntry) → AllPairs IsNotAfter xs → AllPairs IsNotAfter ys → ((w : ℕ) → entries_by w xs ≡ entries_by w ys) → xs ≡ ys
one_list [] [] a b same = refl
one_list [] (y ∷ ys) a b same = (let z : y.entry ∷ entries_by y.worker ys ≡ [] = sym (by_same y.worker y ys refl) ∙ sym (same y.worker) in cc)
one_list (x ∷ xs) [] a b same = (let z : x.entry ∷ entries_by x.worker xs ≡ [] = sym (by_same x.worker x xs refl) ∙ same x.worker in cc)
one_list (x ∷ xs) (y ∷ ys) a b same = ap (λ z. z ∷ xs) is ∙ ap (λ l. y ∷ l) (one_list xs ys (tail_pairs IsNotAfter x xs a) (tail_pairs IsNotAfter y ys b) (λ w. tails w (cases_eq x.worker w)))
  where
    to : IsNotAfter x y
    to = first_before y x ys xs a (λ w. sym (same w))

    from : IsNotAfter y x
    from = first_before x y xs ys b same

    stamp : x.entry.stamp ≡ y.entry.stamp
    stamp = omega (arith, to.stamps, from.stamps)

    worker : x.worker ≡ y.worker
    worker = omega (arith, to.workers stamp, from.workers (sym stamp))

    both : x.entry ∷ entries_by x.worker xs ≡ y.entry ∷ entries_by x.worker ys
    both = sym (by_same x.worker x xs refl) ∙ (same x.worker ∙ by_same x.worker y ys (sym worker))

    is : x ≡ y
    is = ap (λ w. of w x.entry) worker ∙ ap (of y.worker) (same_head x.entry y.entry (entries_by x.worker xs) (entries_by x.worker ys) both)

    tails : (w : ℕ) → (x.worker ≡ w) ⊎ (x.worker ≡ w → ⊥) → entries_by w xs ≡ entries_by w ys
    tails w (inl q) = subst (λ w. entries_by w xs ≡ entries_by w ys) q (same_tail x.entry y.entry (entries_by x.worker xs) (entries_by x.worker ys) both)
    tails w (inr n) = sym (by_other w x xs n) ∙ (same w ∙ by_other w y ys (λ z. n (worker ∙ z)))

pub merged_ascends : MergedAscends
merged_ascends logs rise =
    let xs = placed_in (entries_of logs) logs in
    let known : IsInOrder logs xs = record { each = each_in (entries_of logs) logs (omega arith); ascends = ascends_in (entries_of logs) logs rise } in
    record {
      entries = xs;
      in_order = known;
      only = λ ys o. one_list ys xs o.ascends known.ascends (λ w. o.each w ∙ sym (known.each w));
      firings = firings_in (entries_of logs) logs;
    }
