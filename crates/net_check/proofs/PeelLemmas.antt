-- Peeling a net.
use Rattle.std.proofs.Common.{◌≡◌, ◌⊎◌, inl, inr, ℕ, ◌+◌, ◌-◌, ◌<◌, ◌≤◌, ◌==◌, ◌&&◌, not, Bool, true, false, cond, List, [], ◌∷◌, ◌++◌, length, get_or, set, take, replicate, zero, suc, nat_lt, Option, Some, None, refl, sym, ap, subst, ◌∙◌, arith, length-set, get_or-set_same, get_or-set_other, length-append}
use Rattle.std.specs.Prelude.{MatchOption}
use Rattle.std.specs.List.{All, count_by}
use Rattle.std.proofs.lemmas.Bool.{cases_eq, cases_lt, eq-eqb, ne_eqb, eqb-true, eqb-false, and_parts, and_from, not_from_false, lt-ltb, ltb-true, not-true, not-false, both_ways}
use Rattle.std.proofs.lemmas.List.{get_or-replicate, get_or_past, get_or_append_left, take_all}
use Rattle.std.proofs.lemmas.List.Elements.{All-nil, All-push}
use Rattle.std.proofs.lemmas.List.Sums.{sum_by-cons, sum_by_push, sum_by_more, sum_by_more_le, sum_by-set, get_or-le-sum_by, count_by-le-length}
use Rattle.std.proofs.Math.ListN.{length-replicate}
use Rattle.net_types.specs.declared.net.Chan.{Chan}
use Rattle.net_types.specs.declared.net.Net.{Net}
use Rattle.net_types.specs.Nets.{chan_at, nowhere}
use Rattle.net_check.specs.Cycles.{IsInstant, IsEndless}
use Rattle.net_check.specs.private.Marks.{times}
use Rattle.net_check.specs.private.Peels.{HasUnits, IsLinked, arrives, goes, holds, AreTargets, target_added, AreWaits, wait_added, done, AreReady, IsAwaited, IsReleased, IsPeeled, IsFirstUnset}
use Rattle.net_check.specs.Lowest.{IsLowest}
use Rattle.net_check.proofs.MarkLemmas.{default}

abbrev pub bit : Bool → ℕ
bit b = cond b 1 0

-- a count above 0 has a member that passes
pub counted : {A : Type 0} (p : A → Bool) (xs : List A) (d : A) → 0 < count_by p xs → (i : ℕ) × ((i < length xs) × (p (get_or xs i d) ≡ true))
counted p [] d l = absurd (omega arith)
counted {A} p (x ∷ xs) d l = by (p x) refl (counted p xs d)
  where
    by : (b : Bool) → p x ≡ b → (0 < count_by p xs → (i : ℕ) × ((i < length xs) × (p (get_or xs i d) ≡ true))) → (i : ℕ) × ((i < length (x ∷ xs)) × (p (get_or (x ∷ xs) i d) ≡ true))
    by true e h = (0, (omega arith, e))
    by false e h =
        let c = sum_by-cons (λ (y : A). bit (p y)) x xs in
        let z : bit (p x) ≡ 0 = ap bit e in
        let r = h (omega arith) in
        (suc r.0, (let q = r.1.0 in omega arith, r.1.1))

-- of a count of 0 none passes
pub uncounted : {A : Type 0} (p : A → Bool) (xs : List A) (i : ℕ) (d : A) → i < length xs → count_by p xs ≡ 0 → p (get_or xs i d) ≡ false
uncounted {A} p xs i d l z = by (p (get_or xs i d)) refl
  where
    by : (b : Bool) → p (get_or xs i d) ≡ b → p (get_or xs i d) ≡ false
    by false e = e
    by true e =
        let g = get_or-le-sum_by (λ (y : A). bit (p y)) xs i d l in
        let o : bit (p (get_or xs i d)) ≡ 1 = ap bit e in absurd (omega arith)

pub times_push : (xs : List ℕ) (x u : ℕ) → times (xs ++ x ∷ []) u ≡ times xs u + bit (x == u)
times_push xs x u = sum_by_push (λ y. bit (y == u)) xs x

pub times_more : (xs : List ℕ) (i u : ℕ) → i < length xs → times (take (i + 1) xs) u ≡ times (take i xs) u + bit (get_or xs i 0 == u)
times_more xs i u l = sum_by_more (λ y. bit (y == u)) xs i 0 l

-- what is counted after the mark of u is set, and what goes from u, were counted before
pub held_split : (peeled : List Bool) (u w : ℕ) (cs : List Chan) → u < length peeled → get_or peeled u false ≡ false
    → count_by (holds (set peeled u true) w) cs + count_by (goes u w) cs ≡ count_by (holds peeled w) cs
held_split peeled u w [] l f = refl
held_split peeled u w (c ∷ cs) l f =
    let a = sum_by-cons (λ (y : Chan). bit (holds (set peeled u true) w y)) c cs in
    let b = sum_by-cons (λ (y : Chan). bit (goes u w y)) c cs in
    let d = sum_by-cons (λ (y : Chan). bit (holds peeled w y)) c cs in
    let h = held_split peeled u w cs l f in
    let o = part (arrives w c) (cases_eq c.from.unit u) in
    omega arith
  where
    part : (b : Bool) → (c.from.unit ≡ u) ⊎ (c.from.unit ≡ u → ⊥)
        → bit (b && not (get_or (set peeled u true) c.from.unit false)) + bit (b && (c.from.unit == u)) ≡ bit (b && not (get_or peeled c.from.unit false))
    part false k = refl
    part true (inl k) =
        let g : get_or (set peeled u true) c.from.unit false ≡ true = ap (λ x. get_or (set peeled u true) x false) k ∙ get_or-set_same peeled u true false l in
        let q : get_or peeled c.from.unit false ≡ false = ap (λ x. get_or peeled x false) k ∙ f in
        let e : (c.from.unit == u) ≡ true = eq-eqb _ _ k in
        let g' : bit (not (get_or (set peeled u true) c.from.unit false)) ≡ 0 = ap (λ x. bit (not x)) g in
        let q' : bit (not (get_or peeled c.from.unit false)) ≡ 1 = ap (λ x. bit (not x)) q in
        let e' : bit (c.from.unit == u) ≡ 1 = ap bit e in
        omega arith
    part true (inr k) =
        let g : get_or (set peeled u true) c.from.unit false ≡ get_or peeled c.from.unit false = get_or-set_other peeled u c.from.unit true false k in
        let g' : bit (not (get_or (set peeled u true) c.from.unit false)) ≡ bit (not (get_or peeled c.from.unit false)) = ap (λ x. bit (not x)) g in
        let e' : bit (c.from.unit == u) ≡ 0 = ap bit (ne_eqb _ _ k) in
        omega arith

-- the targets of the first n channels
pub record Targets (net : Net) (n : ℕ) (targets : List (List ℕ)) : Type 0 where
  pub size : length targets ≡ length net.units
  pub named : (v : ℕ) → All (λ u. u < length net.units) (get_or targets v [])
  pub target : (v u : ℕ) → v < length net.units → times (get_or targets v []) u ≡ count_by (goes v u) (take n net.chans)

pub targets_none : (net : Net) (targets : List (List ℕ)) → length targets ≡ length net.units → All (λ list. list ≡ []) targets → Targets net 0 targets
targets_none net targets s a = record {
  size = s;
  named = λ v. (let P : List ℕ → Type 0 = All (λ u. u < length net.units) in subst P (sym (empty v)) (All-nil (λ u. u < length net.units)));
  target = λ v u l. ap (λ xs. times xs u) (empty v);
}
  where
    empty : (v : ℕ) → get_or targets v [] ≡ []
    empty v = elim (cases_lt v (length targets)) [
      | inl l ↦ a v [] l
      | inr l ↦ get_or_past targets v [] l
    ]

pub targets_more : (net : Net) (n : ℕ) (targets after : List (List ℕ)) (c : Chan) → IsLinked net → n < length net.chans → c ≡ chan_at net n → after ≡ target_added targets c → Targets net n targets → Targets net (n + 1) after
targets_more net n targets after c k l e a t =
    let P : List (List ℕ) → Type 0 = Targets net (n + 1) in
    subst P (sym a) (by (c.delay == 0) refl)
  where
    w : HasUnits net c
    w = let Q : Chan → Type 0 = HasUnits net in subst Q (sym e) (k.chans n nowhere l)

    x : List ℕ
    x = get_or targets c.from.unit [] ++ c.to.unit ∷ []

    step : (v u : ℕ) → count_by (goes v u) (take (n + 1) net.chans) ≡ count_by (goes v u) (take n net.chans) + bit (goes v u c)
    step v u =
        sum_by_more (λ (y : Chan). bit (goes v u y)) net.chans n nowhere l
        ∙ ap (λ (y : Chan). count_by (goes v u) (take n net.chans) + bit (goes v u y)) (sym e)

    same : get_or (set targets c.from.unit x) c.from.unit [] ≡ x
    same = get_or-set_same targets c.from.unit x [] (let s = t.size in let f = w.from in omega arith)

    other : (v : ℕ) → (v ≡ c.from.unit → ⊥) → get_or (set targets c.from.unit x) v [] ≡ get_or targets v []
    other v h = get_or-set_other targets c.from.unit v x [] h

    named_at : (v : ℕ) → (v ≡ c.from.unit) ⊎ (v ≡ c.from.unit → ⊥) → All (λ u. u < length net.units) (get_or (set targets c.from.unit x) v [])
    named_at v (inl h) =
        let P : List ℕ → Type 0 = All (λ u. u < length net.units) in
        subst P (sym (ap (λ y. get_or (set targets c.from.unit x) y []) h ∙ same)) (All-push (λ u. u < length net.units) (get_or targets c.from.unit []) c.to.unit (t.named c.from.unit) w.to)
    named_at v (inr h) = let P : List ℕ → Type 0 = All (λ u. u < length net.units) in subst P (sym (other v h)) (t.named v)

    gone : (v u : ℕ) (b d : Bool) → (c.delay == 0) ≡ true → (c.to.unit == u) ≡ b → (c.from.unit == v) ≡ d → bit (goes v u c) ≡ bit (b && d)
    gone v u b d z f g = ap (λ y. bit ((y && (c.to.unit == u)) && (c.from.unit == v))) z ∙ ap (λ y. bit (y && (c.from.unit == v))) f ∙ ap (λ y. bit (b && y)) g

    both : (b : Bool) → bit (b && true) ≡ bit b
    both true = refl
    both false = refl

    none : (b : Bool) → bit (b && false) ≡ 0
    none true = refl
    none false = refl

    target_at : (v u : ℕ) → (c.delay == 0) ≡ true → v < length net.units → (v ≡ c.from.unit) ⊎ (v ≡ c.from.unit → ⊥)
        → times (get_or (set targets c.from.unit x) v []) u ≡ count_by (goes v u) (take (n + 1) net.chans)
    target_at v u z h (inl q) =
        let g : times (get_or (set targets c.from.unit x) v []) u ≡ times x u = ap (λ y. times (get_or (set targets c.from.unit x) y []) u) q ∙ ap (λ y. times y u) same in
        let p = times_push (get_or targets c.from.unit []) c.to.unit u in
        let r : times (get_or targets v []) u ≡ times (get_or targets c.from.unit []) u = ap (λ y. times (get_or targets y []) u) q in
        let o = t.target v u h in
        let s = step v u in
        let m = gone v u (c.to.unit == u) true z refl (eq-eqb _ _ (sym q)) ∙ both (c.to.unit == u) in
        omega arith
    target_at v u z h (inr q) =
        let g : times (get_or (set targets c.from.unit x) v []) u ≡ times (get_or targets v []) u = ap (λ y. times y u) (other v q) in
        let o = t.target v u h in
        let s = step v u in
        let m = gone v u (c.to.unit == u) false z refl (ne_eqb _ _ (λ y. q (sym y))) ∙ none (c.to.unit == u) in
        omega arith

    by : (b : Bool) → (c.delay == 0) ≡ b → Targets net (n + 1) (cond b (set targets c.from.unit x) targets)
    by false d = record {
      size = t.size;
      named = t.named;
      target = λ v u h. (let s = step v u in
          let z : bit (goes v u c) ≡ 0 = ap (λ y. bit ((y && (c.to.unit == u)) && (c.from.unit == v))) d in
          let q = t.target v u h in omega arith);
    }
    by true d = record {
      size = length-set targets c.from.unit x ∙ t.size;
      named = λ v. named_at v (cases_eq v c.from.unit);
      target = λ v u h. target_at v u d h (cases_eq v c.from.unit);
    }

pub targets_all : (net : Net) (n : ℕ) (targets : List (List ℕ)) → length net.chans ≤ n → Targets net n targets → AreTargets net targets
targets_all net n targets l t = record {
  size = t.size;
  named = t.named;
  target = λ v u h. t.target v u h ∙ ap (λ cs. count_by (goes v u) cs) (take_all n net.chans l);
}

pub targets_read : (net : Net) (cs : List Chan) (n : ℕ) (targets after : List (List ℕ)) → IsLinked net → cs ≡ net.chans → n < length cs → after ≡ target_added targets (get_or cs n nowhere) → Targets net n targets → Targets net (n + 1) after
targets_read net cs n targets after k e l a t =
    targets_more net n targets after (get_or cs n nowhere) k (let P : List Chan → Type 0 = λ x. n < length x in subst P e l) (ap (λ x. get_or x n nowhere) e) a t

pub targets_past : (net : Net) (cs : List Chan) (n : ℕ) (targets : List (List ℕ)) → cs ≡ net.chans → length cs ≤ n → Targets net n targets → AreTargets net targets
targets_past net cs n targets e l t = targets_all net n targets (let P : List Chan → Type 0 = λ x. length x ≤ n in subst P e l) t

-- the waits for the first n channels
pub record Waits (net : Net) (n : ℕ) (waits : List ℕ) : Type 0 where
  pub size : length waits ≡ length net.units
  pub wait : (u : ℕ) → u < length net.units → get_or waits u 0 ≡ count_by (arrives u) (take n net.chans)

pub waits_none : (net : Net) (waits : List ℕ) → waits ≡ replicate (length net.units) 0 → Waits net 0 waits
waits_none net waits e = record {
  size = ap length e ∙ length-replicate (length net.units) 0;
  wait = λ u l. ap (λ ws. get_or ws u 0) e ∙ get_or-replicate (length net.units) u 0 0 l;
}

pub waits_more : (net : Net) (n : ℕ) (waits after : List ℕ) (c : Chan) → IsLinked net → n < length net.chans → c ≡ chan_at net n → after ≡ wait_added waits c → Waits net n waits → Waits net (n + 1) after
waits_more net n waits after c k l e a t =
    let P : List ℕ → Type 0 = Waits net (n + 1) in
    subst P (sym a) (by (c.delay == 0) refl)
  where
    w : HasUnits net c
    w = let Q : Chan → Type 0 = HasUnits net in subst Q (sym e) (k.chans n nowhere l)

    x : ℕ
    x = get_or waits c.to.unit 0 + 1

    step : (u : ℕ) → count_by (arrives u) (take (n + 1) net.chans) ≡ count_by (arrives u) (take n net.chans) + bit (arrives u c)
    step u =
        sum_by_more (λ (y : Chan). bit (arrives u y)) net.chans n nowhere l
        ∙ ap (λ (y : Chan). count_by (arrives u) (take n net.chans) + bit (arrives u y)) (sym e)

    wait_at : (u : ℕ) → (c.delay == 0) ≡ true → u < length net.units → (u ≡ c.to.unit) ⊎ (u ≡ c.to.unit → ⊥) → get_or (set waits c.to.unit x) u 0 ≡ count_by (arrives u) (take (n + 1) net.chans)
    wait_at u z h (inl q) =
        let g : get_or (set waits c.to.unit x) u 0 ≡ x = ap (λ y. get_or (set waits c.to.unit x) y 0) q ∙ get_or-set_same waits c.to.unit x 0 (let s = t.size in let f = w.to in omega arith) in
        let r : get_or waits u 0 ≡ get_or waits c.to.unit 0 = ap (λ y. get_or waits y 0) q in
        let o = t.wait u h in
        let s = step u in
        let m : bit (arrives u c) ≡ 1 = ap (λ y. bit (y && (c.to.unit == u))) z ∙ ap bit (eq-eqb _ _ (sym q)) in
        let v : x ≡ get_or waits c.to.unit 0 + 1 = refl in
        omega arith
    wait_at u z h (inr q) =
        let g : get_or (set waits c.to.unit x) u 0 ≡ get_or waits u 0 = get_or-set_other waits c.to.unit u x 0 q in
        let o = t.wait u h in
        let s = step u in
        let m : bit (arrives u c) ≡ 0 = ap (λ y. bit (y && (c.to.unit == u))) z ∙ ap bit (ne_eqb _ _ (λ y. q (sym y))) in
        omega arith

    by : (b : Bool) → (c.delay == 0) ≡ b → Waits net (n + 1) (cond b (set waits c.to.unit x) waits)
    by false d = record {
      size = t.size;
      wait = λ u h. (let s = step u in let z : bit (arrives u c) ≡ 0 = ap (λ y. bit (y && (c.to.unit == u))) d in let q = t.wait u h in omega arith);
    }
    by true d = record {
      size = length-set waits c.to.unit x ∙ t.size;
      wait = λ u h. wait_at u d h (cases_eq u c.to.unit);
    }

pub waits_read : (net : Net) (cs : List Chan) (n : ℕ) (waits after : List ℕ) → IsLinked net → cs ≡ net.chans → n < length cs → after ≡ wait_added waits (get_or cs n nowhere) → Waits net n waits → Waits net (n + 1) after
waits_read net cs n waits after k e l a t =
    waits_more net n waits after (get_or cs n nowhere) k (let P : List Chan → Type 0 = λ x. n < length x in subst P e l) (ap (λ x. get_or x n nowhere) e) a t

-- a wait fits a machine word, since it counts channels
pub wait_le : (net : Net) (n u : ℕ) (waits : List ℕ) → u < length net.units → Waits net n waits → get_or waits u 0 ≤ length (take n net.chans)
wait_le net n u waits l t = let a = count_by-le-length (arrives u) (take n net.chans) in let b = t.wait u l in omega arith

pub waits_all : (net : Net) (n : ℕ) (waits : List ℕ) → length net.chans ≤ n → Waits net n waits → AreWaits net waits
waits_all net n waits l t = record {
  size = t.size;
  wait = λ u h. t.wait u h ∙ ap (λ cs. count_by (arrives u) cs) (take_all n net.chans l);
}

-- the units below n that wait for nothing
pub record Readied (waits : List ℕ) (n : ℕ) (ready : List ℕ) : Type 0 where
  pub named : All (λ u. u < length waits) ready
  pub below : (u : ℕ) → u < n → times ready u ≡ done (get_or waits u 0)
  pub past : (u : ℕ) → n ≤ u → times ready u ≡ 0

pub readied_none : (waits : List ℕ) → Readied waits 0 []
readied_none waits = record {
  named = All-nil (λ u. u < length waits);
  below = λ u l. absurd (omega arith);
  past = λ u l. refl;
}

pub readied_yes : (waits : List ℕ) (n : ℕ) (ready : List ℕ) → n < length waits → get_or waits n 0 ≡ 0 → Readied waits n ready → Readied waits (n + 1) (ready ++ n ∷ [])
readied_yes waits n ready l z r = record {
  named = All-push (λ u. u < length waits) ready n r.named l;
  below = λ u h. by u h (cases_eq n u);
  past = λ u h. (let p = times_push ready n u in let q = r.past u (omega arith) in let e : bit (n == u) ≡ 0 = ap bit (ne_eqb n u (λ y. (let y' : n ≡ u = y in omega arith))) in omega arith);
}
  where
    by : (u : ℕ) → u < n + 1 → (n ≡ u) ⊎ (n ≡ u → ⊥) → times (ready ++ n ∷ []) u ≡ done (get_or waits u 0)
    by u h (inl e) =
        let p = times_push ready n u in
        let e' : n ≡ u = e in
        let q = r.past u (omega arith) in
        let f : bit (n == u) ≡ 1 = ap bit (eq-eqb n u e) in
        let g : done (get_or waits u 0) ≡ 1 = ap (λ y. done (get_or waits y 0)) (sym e) ∙ ap done z in
        omega arith
    by u h (inr e) =
        let p = times_push ready n u in
        let f : bit (n == u) ≡ 0 = ap bit (ne_eqb n u e) in
        let q = r.below u (elim (cases_lt u n) [ inl y ↦ y | inr y ↦ absurd (e (let y' : n ≤ u = y in omega arith)) ]) in
        omega arith

pub readied_no : (waits : List ℕ) (n : ℕ) (ready : List ℕ) → (get_or waits n 0 ≡ 0 → ⊥) → Readied waits n ready → Readied waits (n + 1) ready
readied_no waits n ready z r = record {
  named = r.named;
  below = λ u h. by u h (cases_eq n u);
  past = λ u h. r.past u (omega arith);
}
  where
    by : (u : ℕ) → u < n + 1 → (n ≡ u) ⊎ (n ≡ u → ⊥) → times ready u ≡ done (get_or waits u 0)
    by u h (inl e) =
        let e' : n ≡ u = e in
        let q = r.past u (omega arith) in
        let g : done (get_or waits u 0) ≡ 0 = ap (λ y. done (get_or waits y 0)) (sym e) ∙ ap bit (ne_eqb (get_or waits n 0) 0 z) in
        omega arith
    by u h (inr e) = r.below u (elim (cases_lt u n) [ inl y ↦ y | inr y ↦ absurd (e (let y' : n ≤ u = y in omega arith)) ])

pub readied_all : (waits : List ℕ) (n : ℕ) (ready : List ℕ) → length waits ≤ n → Readied waits n ready → AreReady waits ready
readied_all waits n ready l r = record { named = r.named; once = λ u h. r.below u (omega arith) }

-- no target yet
pub released_none : (waits ready : List ℕ) → IsReleased [] waits ready waits ready
released_none waits ready = record {
  size = refl;
  wait = λ u l. (let z : times [] u ≡ 0 = refl in omega arith);
  once = λ u l. refl;
  named = λ a. a;
}

-- the next target still waits
pub still_waits : (targets waits ready ws rs : List ℕ) (i : ℕ) → i < length targets → IsAwaited targets waits → IsReleased (take i targets) waits ready ws rs → 0 < get_or ws (get_or targets i 0) 0
still_waits targets waits ready ws rs i l a r =
    let t : ℕ = get_or targets i 0 in
    let h : t < length waits = a.named i 0 l in
    let w = r.wait t h in
    let e = a.enough t h in
    let m = sum_by_more_le (λ y. bit (y == t)) targets i 0 l in
    let o : bit (get_or targets i 0 == t) ≡ 1 = ap bit (eq-eqb t t refl) in
    omega arith

pub released_more : (targets waits ready ws rs ws' rs' : List ℕ) (i t : ℕ) → i < length targets → t ≡ get_or targets i 0 → IsAwaited targets waits → IsReleased (take i targets) waits ready ws rs
    → ws' ≡ set ws t (get_or ws t 0 - 1) → rs' ≡ cond (get_or ws t 0 == 1) (rs ++ t ∷ []) rs → IsReleased (take (i + 1) targets) waits ready ws' rs'
released_more targets waits ready ws rs ws' rs' i t l e a r p q = record {
  size = ap length p ∙ length-set ws t x ∙ r.size;
  wait = λ u h. wait_at u h (cases_eq u t);
  once = λ u h. once_at u h (cases_eq u t);
  named = λ b. (let P : List ℕ → Type 0 = All (λ u. u < length waits) in subst P (sym q) (grown (get_or ws t 0 == 1) (r.named b)));
}
  where
    x : ℕ
    x = get_or ws t 0 - 1

    within : t < length waits
    within = let n = a.named i 0 l in omega arith

    some : 0 < get_or ws t 0
    some = let n = still_waits targets waits ready ws rs i l a r in let P : ℕ → Type 0 = λ y. 0 < get_or ws y 0 in subst P (sym e) n

    more : (u : ℕ) → times (take (i + 1) targets) u ≡ times (take i targets) u + bit (t == u)
    more u = times_more targets i u l ∙ ap (λ y. times (take i targets) u + bit (y == u)) (sym e)

    at_same : (u : ℕ) → u ≡ t → get_or ws' u 0 ≡ x
    at_same u h = ap (λ y. get_or ws' y 0) h ∙ ap (λ y. get_or y t 0) p ∙ get_or-set_same ws t x 0 (let s = r.size in let w = within in omega arith)

    at_other : (u : ℕ) → (u ≡ t → ⊥) → get_or ws' u 0 ≡ get_or ws u 0
    at_other u h = ap (λ y. get_or y u 0) p ∙ get_or-set_other ws t u x 0 h

    wait_at : (u : ℕ) → u < length waits → (u ≡ t) ⊎ (u ≡ t → ⊥) → get_or ws' u 0 + times (take (i + 1) targets) u ≡ get_or waits u 0
    wait_at u h (inl k) =
        let s = some in
        let m = more u in
        let o : bit (t == u) ≡ 1 = ap bit (eq-eqb t u (sym k)) in
        let g = at_same u k in
        let v : x ≡ get_or ws t 0 - 1 = refl in
        let w = r.wait u h in
        let z : get_or ws u 0 ≡ get_or ws t 0 = ap (λ y. get_or ws y 0) k in
        omega arith
    wait_at u h (inr k) =
        let m = more u in
        let o : bit (t == u) ≡ 0 = ap bit (ne_eqb t u (λ y. k (sym y))) in
        let g = at_other u k in
        let w = r.wait u h in
        omega arith

    grown : (b : Bool) → All (λ u. u < length waits) rs → All (λ u. u < length waits) (cond b (rs ++ t ∷ []) rs)
    grown true h = All-push (λ u. u < length waits) rs t h within
    grown false h = h

    last : (u : ℕ) (b : Bool) → (get_or ws t 0 == 1) ≡ b → times rs' u ≡ times rs u + cond b (bit (t == u)) 0
    last u true h = ap (λ y. times y u) q ∙ ap (λ y. times (cond y (rs ++ t ∷ []) rs) u) h ∙ times_push rs t u
    last u false h = (let c : times rs' u ≡ times rs u = ap (λ y. times y u) q ∙ ap (λ y. times (cond y (rs ++ t ∷ []) rs) u) h in omega arith)

    once_at : (u : ℕ) → u < length waits → (u ≡ t) ⊎ (u ≡ t → ⊥) → times rs' u + done (get_or waits u 0) ≡ times ready u + done (get_or ws' u 0)
    once_at u h (inr k) =
        let o = r.once u h in
        let g : done (get_or ws' u 0) ≡ done (get_or ws u 0) = ap done (at_other u k) in
        let z : times rs' u ≡ times rs u = kept (get_or ws t 0 == 1) refl in
        omega arith
      where
        kept : (b : Bool) → (get_or ws t 0 == 1) ≡ b → times rs' u ≡ times rs u
        kept true f = let m = last u true f in let c : bit (t == u) ≡ 0 = ap bit (ne_eqb t u (λ y. k (sym y))) in omega arith
        kept false f = let m = last u false f in omega arith
    once_at u h (inl k) = by (get_or ws t 0 == 1) refl
      where
        by : (b : Bool) → (get_or ws t 0 == 1) ≡ b → times rs' u + done (get_or waits u 0) ≡ times ready u + done (get_or ws' u 0)
        by true f =
            let m = last u true f in
            let o = r.once u h in
            let c : bit (t == u) ≡ 1 = ap bit (eq-eqb t u (sym k)) in
            let z : get_or ws t 0 ≡ 1 = eqb-true _ _ f in
            let y : x ≡ 0 = (let v : x ≡ get_or ws t 0 - 1 = refl in omega arith) in
            let d : done (get_or ws' u 0) ≡ 1 = ap done (at_same u k ∙ y) in
            let j : done (get_or ws u 0) ≡ 0 = ap (λ y. done (get_or ws y 0)) k ∙ ap done z in
            omega arith
        by false f =
            let m = last u false f in
            let o = r.once u h in
            let s = some in
            let z : get_or ws t 0 ≡ 1 → ⊥ = eqb-false _ _ f in
            let v : x ≡ get_or ws t 0 - 1 = refl in
            let y : x ≡ 0 → ⊥ = λ (i : x ≡ 0). z (omega arith) in
            let d : done (get_or ws' u 0) ≡ 0 = ap done (at_same u k) ∙ ap bit (ne_eqb x 0 y) in
            let j : done (get_or ws u 0) ≡ 0 = ap (λ y. done (get_or ws y 0)) k ∙ ap bit (ne_eqb (get_or ws t 0) 0 (λ (i : get_or ws t 0 ≡ 0). (omega arith))) in
            omega arith

-- the state of the peeling: the marks, and for each unit the channels that hold it
pub record Peeling (net : Net) (waits ready : List ℕ) (peeled : List Bool) : Type 0 where
  pub waits_size : length waits ≡ length net.units
  pub peeled_size : length peeled ≡ length net.units
  pub wait : (u : ℕ) → u < length net.units → get_or waits u 0 ≡ count_by (holds peeled u) net.chans
  pub once : (u : ℕ) → u < length net.units → times ready u + bit (get_or peeled u false) ≡ done (get_or waits u 0)
  pub named : All (λ u. u < length net.units) ready
  pub gone : (u : ℕ) → get_or peeled u false ≡ true → IsEndless net u → ⊥

pub peeling_none : (net : Net) (waits ready : List ℕ) (peeled : List Bool) → AreWaits net waits → AreReady waits ready → peeled ≡ replicate (length waits) false → Peeling net waits ready peeled
peeling_none net waits ready peeled w r e = record {
  waits_size = w.size;
  peeled_size = ap length e ∙ length-replicate (length waits) false ∙ w.size;
  wait = λ u l. w.wait u l ∙ sym (all u net.chans);
  once = λ u l. (let o = r.once u (let s = w.size in omega arith) in let z : bit (get_or peeled u false) ≡ 0 = ap bit (unset u) in omega arith);
  named = (let P : ℕ → Type 0 = λ n. All (λ u. u < n) ready in subst P w.size r.named);
  gone = λ u t. absurd (both_ways _ (unset u) t);
}
  where
    unset : (u : ℕ) → get_or peeled u false ≡ false
    unset u = ap (λ m. get_or m u false) e ∙ elim (cases_lt u (length waits)) [
      | inl l ↦ get_or-replicate (length waits) u false false l
      | inr l ↦ get_or_past (replicate (length waits) false) u false (let n : length (replicate (length waits) false) ≡ length waits = length-replicate (length waits) false in let l' : length waits ≤ u = l in omega arith)
    ]

    both : (b : Bool) → bit (b && true) ≡ bit b
    both true = refl
    both false = refl

    all : (u : ℕ) (cs : List Chan) → count_by (holds peeled u) cs ≡ count_by (arrives u) cs
    all u [] = refl
    all u (c ∷ cs) =
        let a = sum_by-cons (λ (y : Chan). bit (holds peeled u y)) c cs in
        let b = sum_by-cons (λ (y : Chan). bit (arrives u y)) c cs in
        let h = all u cs in
        let o : bit (holds peeled u c) ≡ bit (arrives u c) = ap (λ y. bit (arrives u c && not y)) (unset c.from.unit) ∙ both (arrives u c) in
        omega arith

pub peeling_init : (net : Net) (waits slice ready : List ℕ) (peeled : List Bool) (n : ℕ) → AreWaits net waits → slice ≡ waits → AreReady slice ready → n ≡ length waits → peeled ≡ replicate n false → Peeling net waits ready peeled
peeling_init net waits slice ready peeled n w e r l p =
    peeling_none net waits ready peeled w (let P : List ℕ → Type 0 = λ x. AreReady x ready in subst P e r) (p ∙ ap (λ x. replicate x false) l)

-- the unit that is taken from the ready ones
pub record IsTaken (waits : List ℕ) (peeled : List Bool) (ready : List ℕ) (u : ℕ) : Type 0 where
  pub unmarked : get_or peeled u false ≡ false
  pub wait : get_or waits u 0 ≡ 0
  pub rest : times ready u ≡ 0

pub next_within : (net : Net) (waits ready rest : List ℕ) (peeled : List Bool) (u : ℕ) → Peeling net waits ready peeled → ready ≡ rest ++ u ∷ [] → u < length net.units
next_within net waits ready rest peeled u p e =
    let P : List ℕ → Type 0 = All (λ v. v < length net.units) in
    last rest (subst P e p.named)
  where
    last : (xs : List ℕ) → All (λ v. v < length net.units) (xs ++ u ∷ []) → u < length net.units
    last [] a = a 0 0 (omega arith)
    last (x ∷ xs) a = last xs (λ k d l. a (suc k) d (omega arith))

pub next_taken : (net : Net) (waits ready rest : List ℕ) (peeled : List Bool) (u : ℕ) → Peeling net waits ready peeled → ready ≡ rest ++ u ∷ [] → IsTaken waits peeled rest u
next_taken net waits ready rest peeled u p e = by (get_or peeled u false) refl (get_or waits u 0 == 0) refl
  where
    within : u < length net.units
    within = next_within net waits ready rest peeled u p e

    twice : times ready u ≡ times rest u + 1
    twice = ap (λ y. times y u) e ∙ times_push rest u u ∙ ap (λ b. times rest u + bit b) (eq-eqb u u refl)

    by : (b : Bool) → get_or peeled u false ≡ b → (d : Bool) → (get_or waits u 0 == 0) ≡ d → IsTaken waits peeled rest u
    by false f true g = record {
      unmarked = f;
      wait = eqb-true _ _ g;
      rest = (let o = p.once u within in let t = twice in let z : bit (get_or peeled u false) ≡ 0 = ap bit f in let w : done (get_or waits u 0) ≡ 1 = ap bit g in omega arith);
    }
    by true f true g = (let o = p.once u within in let t = twice in let z : bit (get_or peeled u false) ≡ 1 = ap bit f in let w : done (get_or waits u 0) ≡ 1 = ap bit g in absurd (omega arith))
    by b f false g = (let o = p.once u within in let t = twice in let w : done (get_or waits u 0) ≡ 0 = ap bit g in absurd (omega arith))

pub next_awaited : (net : Net) (waits rest : List ℕ) (peeled : List Bool) (targets : List (List ℕ)) (u : ℕ) → AreTargets net targets → u < length net.units → get_or peeled u false ≡ false
    → length waits ≡ length net.units → length peeled ≡ length net.units → ((w : ℕ) → w < length net.units → get_or waits w 0 ≡ count_by (holds peeled w) net.chans) → IsAwaited (get_or targets u []) waits
next_awaited net waits rest peeled targets u t l f s z w = record {
  named = (let P : ℕ → Type 0 = λ n. All (λ v. v < n) (get_or targets u []) in subst P (sym s) (t.named u));
  enough = λ v h. (let b : v < length net.units = omega arith in
      let a = held_split peeled u v net.chans (omega arith) f in
      let c = t.target u v l in
      let d = w v b in omega arith);
}

pub peeling_awaited : (net : Net) (waits ready rest : List ℕ) (peeled : List Bool) (targets : List (List ℕ)) (u : ℕ) → Peeling net waits ready peeled → AreTargets net targets → ready ≡ rest ++ u ∷ [] → IsAwaited (get_or targets u []) waits
peeling_awaited net waits ready rest peeled targets u p t e =
    next_awaited net waits rest peeled targets u t (next_within net waits ready rest peeled u p e) (next_taken net waits ready rest peeled u p e).unmarked p.waits_size p.peeled_size p.wait

-- a list of targets that was read
pub list_read : (targets : List (List ℕ)) (u : ℕ) (xs ys : List ℕ) → u < length targets → xs ≡ ys → ys ≡ get_or targets u ys → xs ≡ get_or targets u []
list_read targets u xs ys l e r = e ∙ r ∙ default targets u ys [] l

pub awaited_at : (net : Net) (waits ready rest : List ℕ) (peeled : List Bool) (targets : List (List ℕ)) (u : ℕ) (xs ys : List ℕ) → Peeling net waits ready peeled → AreTargets net targets → ready ≡ rest ++ u ∷ []
    → xs ≡ ys → ys ≡ get_or targets u ys → IsAwaited xs waits
awaited_at net waits ready rest peeled targets u xs ys p t e f r =
    let P : List ℕ → Type 0 = λ x. IsAwaited x waits in
    let l = next_within net waits ready rest peeled u p e in
    subst P (sym (list_read targets u xs ys (let s = t.size in omega arith) f r)) (peeling_awaited net waits ready rest peeled targets u p t e)

-- no walk backward from the unit is without end, where none is from each unit that it comes from
pub ends_at : (net : Net) (peeled : List Bool) (u : ℕ) → count_by (holds peeled u) net.chans ≡ 0 → ((v : ℕ) → get_or peeled v false ≡ true → IsEndless net v → ⊥) → IsEndless net u → ⊥
ends_at net peeled u z g s =
    let b = s.back u s.here in
    let v : ℕ = b.0 in
    let c : ℕ = b.1.1.0 in
    let i : IsInstant net v u c = b.1.1.1 in
    let n : holds peeled u (chan_at net c) ≡ false = uncounted (holds peeled u) net.chans c nowhere i.within z in
    let d : ((chan_at net c).delay == 0) ≡ true = eq-eqb _ _ i.delay in
    let t : ((chan_at net c).to.unit == u) ≡ true = eq-eqb _ _ i.target in
    let m : not (get_or peeled (chan_at net c).from.unit false) ≡ false =
    sym (ap (λ y. (y && ((chan_at net c).to.unit == u)) && not (get_or peeled (chan_at net c).from.unit false)) d ∙ ap (λ y. y && not (get_or peeled (chan_at net c).from.unit false)) t) ∙ n in
    let k : get_or peeled v false ≡ true = ap (λ y. get_or peeled y false) (sym i.source) ∙ not-false _ m in
    g v k (record { set = s.set; here = b.1.0; back = s.back })

pub peeling_more : (net : Net) (waits ready rest ws rs : List ℕ) (peeled : List Bool) (targets : List (List ℕ)) (u : ℕ) → Peeling net waits ready peeled → AreTargets net targets → ready ≡ rest ++ u ∷ []
    → IsReleased (get_or targets u []) waits rest ws rs → Peeling net ws rs (set peeled u true)
peeling_more net waits ready rest ws rs peeled targets u p t e r = record {
  waits_size = r.size ∙ p.waits_size;
  peeled_size = length-set peeled u true ∙ p.peeled_size;
  wait = λ v h. (let a = held_split peeled u v net.chans (let s = p.peeled_size in let l = within in omega arith) taken.unmarked in
      let b = r.wait v (let s = p.waits_size in omega arith) in
      let c = t.target u v within in
      let d = p.wait v h in omega arith);
  once = λ v h. once_at v h (cases_eq v u);
  named = (let P : ℕ → Type 0 = λ n. All (λ v. v < n) rs in subst P p.waits_size (r.named (let Q : ℕ → Type 0 = λ n. All (λ v. v < n) rest in subst Q (sym p.waits_size) front)));
  gone = λ v h. gone_at v h (cases_eq v u);
}
  where
    within : u < length net.units
    within = next_within net waits ready rest peeled u p e

    taken : IsTaken waits peeled rest u
    taken = next_taken net waits ready rest peeled u p e

    front : All (λ v. v < length net.units) rest
    front = let P : List ℕ → Type 0 = All (λ v. v < length net.units) in init rest (subst P e p.named)
      where
        init : (xs : List ℕ) → All (λ v. v < length net.units) (xs ++ u ∷ []) → All (λ v. v < length net.units) xs
        init xs a k d l = (let g : get_or (xs ++ u ∷ []) k d ≡ get_or xs k d = get_or_append_left xs (u ∷ []) d k l in
            let P : ℕ → Type 0 = λ y. y < length net.units in subst P g (a k d (let n : length (xs ++ u ∷ []) ≡ length xs + 1 = length-append xs (u ∷ []) in omega arith)))

    marked : get_or (set peeled u true) u false ≡ true
    marked = get_or-set_same peeled u true false (let s = p.peeled_size in let l = within in omega arith)

    once_at : (v : ℕ) → v < length net.units → (v ≡ u) ⊎ (v ≡ u → ⊥) → times rs v + bit (get_or (set peeled u true) v false) ≡ done (get_or ws v 0)
    once_at v h (inl k) =
        let m : bit (get_or (set peeled u true) v false) ≡ 1 = ap (λ y. bit (get_or (set peeled u true) y false)) k ∙ ap bit marked in
        let a = r.once v (let s = p.waits_size in omega arith) in
        let z : done (get_or waits v 0) ≡ 1 = ap (λ y. done (get_or waits y 0)) k ∙ ap done taken.wait in
        let q : times rest v ≡ 0 = ap (λ y. times rest y) k ∙ taken.rest in
        omega arith
    once_at v h (inr k) =
        let m : bit (get_or (set peeled u true) v false) ≡ bit (get_or peeled v false) = ap bit (get_or-set_other peeled u v true false k) in
        let a = r.once v (let s = p.waits_size in omega arith) in
        let b = p.once v h in
        let c : times ready v ≡ times rest v + bit (u == v) = ap (λ y. times y v) e ∙ times_push rest u v in
        let d : bit (u == v) ≡ 0 = ap bit (ne_eqb u v (λ y. k (sym y))) in
        omega arith

    gone_at : (v : ℕ) → get_or (set peeled u true) v false ≡ true → (v ≡ u) ⊎ (v ≡ u → ⊥) → IsEndless net v → ⊥
    gone_at v h (inl k) = let P : ℕ → Type 0 = λ y. IsEndless net y → ⊥ in subst P (sym k) (ends_at net peeled u (sym (p.wait u within) ∙ taken.wait) p.gone)
    gone_at v h (inr k) = p.gone v (sym (get_or-set_other peeled u v true false k) ∙ h)

pub more_at : (net : Net) (waits ready rest ws rs : List ℕ) (peeled : List Bool) (targets : List (List ℕ)) (u : ℕ) (xs ys : List ℕ) → Peeling net waits ready peeled → AreTargets net targets → ready ≡ rest ++ u ∷ []
    → xs ≡ ys → ys ≡ get_or targets u ys → IsReleased xs waits rest ws rs → Peeling net ws rs (set peeled u true)
more_at net waits ready rest ws rs peeled targets u xs ys p t e f r h =
    let P : List ℕ → Type 0 = λ x. IsReleased x waits rest ws rs in
    let l = next_within net waits ready rest peeled u p e in
    peeling_more net waits ready rest ws rs peeled targets u p t e (subst P (list_read targets u xs ys (let s = t.size in omega arith) f r) h)

-- the lowest unit that stays
pub lowest_stays : (net : Net) (peeled marks : List Bool) (u : ℕ) → IsPeeled net peeled → marks ≡ peeled → IsFirstUnset marks u → IsLowest (IsEndless net) u
lowest_stays net peeled marks u p e f = record {
  here = p.stays u (let P : List Bool → Type 0 = λ m. u < length m in let l : u < length peeled = subst P e f.within in let s = p.size in omega arith) (ap (λ m. get_or m u false) (sym e) ∙ f.unset);
  below = λ v l. p.gone v (ap (λ m. get_or m v false) (sym e) ∙ f.before v l);
}

pub none_stays : (net : Net) (peeled marks : List Bool) → IsLinked net → IsPeeled net peeled → marks ≡ peeled → All (λ m. m ≡ true) marks → (u : ℕ) → IsEndless net u → ⊥
none_stays net peeled marks k p e a u s = by (cases_lt u (length net.units))
  where
    by : (u < length net.units) ⊎ (length net.units ≤ u) → ⊥
    by (inl l) = p.gone u (ap (λ m. get_or m u false) (sym e) ∙ a u false (let P : List Bool → Type 0 = λ m. length marks ≡ length m in let n : length marks ≡ length peeled = ap length e in let z = p.size in let l' : u < length net.units = l in omega arith)) s
    by (inr l) =
        let b = s.back u s.here in
        let c : ℕ = b.1.1.0 in
        let i : IsInstant net b.0 u c = b.1.1.1 in
        let h : HasUnits net (chan_at net c) = k.chans c nowhere i.within in
        let t = h.to in let q : (chan_at net c).to.unit ≡ u = i.target in let l' : length net.units ≤ u = l in omega arith

pub first_decided : (net : Net) (peeled marks : List Bool) (o : Option ℕ) → IsLinked net → IsPeeled net peeled → marks ≡ peeled → MatchOption o (All (λ m. m ≡ true) marks) (IsFirstUnset marks)
    → MatchOption o ((u : ℕ) → IsEndless net u → ⊥) (IsLowest (IsEndless net))
first_decided net peeled marks None k p e d = none_stays net peeled marks k p e d
first_decided net peeled marks (Some u) k p e d = lowest_stays net peeled marks u p e d

-- fewer units stay
pub fewer : (peeled : List Bool) (u : ℕ) → u < length peeled → get_or peeled u false ≡ false → count_by not (set peeled u true) < count_by not peeled
fewer peeled u l f =
    let s = sum_by-set (λ b. bit (not b)) peeled u true false l in
    let z : bit (not (get_or peeled u false)) ≡ 1 = ap (λ b. bit (not b)) f in
    omega arith

pub peeling_fewer : (net : Net) (waits ready rest : List ℕ) (peeled : List Bool) (u : ℕ) → Peeling net waits ready peeled → ready ≡ rest ++ u ∷ [] → count_by not (set peeled u true) < count_by not peeled
peeling_fewer net waits ready rest peeled u p e =
    fewer peeled u (let s = p.peeled_size in let l = next_within net waits ready rest peeled u p e in omega arith) (next_taken net waits ready rest peeled u p e).unmarked

pub peeling_done : (net : Net) (waits ready : List ℕ) (peeled : List Bool) → IsLinked net → Peeling net waits ready peeled → length ready ≡ 0 → IsPeeled net peeled
peeling_done net waits ready peeled k p e = record {
  size = p.peeled_size;
  gone = p.gone;
  stays = λ u l f. record { set = stay; here = staying u l f; back = back };
}
  where
    stay : ℕ → Bool
    stay v = nat_lt v (length net.units) && not (get_or peeled v false)

    staying : (v : ℕ) → v < length net.units → get_or peeled v false ≡ false → stay v ≡ true
    staying v l f = and_from _ _ (lt-ltb _ _ l) (not_from_false _ f)

    back : (w : ℕ) → stay w ≡ true → (v : ℕ) × ((stay v ≡ true) × ((c : ℕ) × IsInstant net v w c))
    back w t =
        let a = and_parts _ _ t in
        let l : w < length net.units = ltb-true _ _ a.0 in
        let f : get_or peeled w false ≡ false = not-true _ a.1 in
        let o = p.once w l in
        let n : times ready w ≡ 0 = none ready e in
        let z : bit (get_or peeled w false) ≡ 0 = ap bit f in
        let g : 0 < get_or waits w 0 = waiting (get_or waits w 0) (omega arith) in
        let h : 0 < count_by (holds peeled w) net.chans = (let q = p.wait w l in omega arith) in
        let r = counted (holds peeled w) net.chans nowhere h in
        let m = and_parts _ _ r.1.1 in
        let i = and_parts _ _ m.0 in
        let u : HasUnits net (chan_at net r.0) = k.chans r.0 nowhere r.1.0 in
        ((chan_at net r.0).from.unit, (staying _ u.from (not-true _ m.1), (r.0, record { within = r.1.0; delay = eqb-true _ _ i.0; source = refl; target = eqb-true _ _ i.1 })))
      where
        none : (xs : List ℕ) → length xs ≡ 0 → times xs w ≡ 0
        none [] z = refl
        none (x ∷ xs) z = absurd (omega arith)

        waiting : (x : ℕ) → done x ≡ 0 → 0 < x
        waiting zero d = absurd (let d' : 1 ≡ 0 = d in omega arith)
        waiting (suc x) d = omega arith
