-- A state has one form of data.
use Rattle.std.proofs.Common.{◌≡◌, ℕ, zero, suc, ◌<◌, ◌≤◌, ◌==◌, ◌||◌, ◌⊎◌, Bool, true, false, List, [], ◌∷◌, length, get_or, set, replicate, refl, sym, ap, subst, ◌∙◌, inl, inr, arith, eqb-true, eq-eqb, ne_eqb, get_or-set_same, get_or-set_other, length-set}
use Rattle.std.proofs.lemmas.List.{ext_get_or}
use Rattle.std.proofs.lemmas.List.Elements.{All-head, All-tail}
use Rattle.std.proofs.lemmas.Bool.{cases_lt, cases_eq}
use Rattle.std.specs.List.{All}
use Rattle.net_types.specs.declared.net.Net.{Net}
use Rattle.net_types.specs.declared.net.Unit.{Unit as Kind}
use Rattle.net_types.specs.declared.net.Unit.TheVariants.{Entry, Param, Fork, Lsq, Exit}
use Rattle.net_types.specs.Nets.{kind_of}
use Rattle.net_check.specs.Checks.{IsChecked}
use Rattle.net_check.specs.Ends.{is_lsq}
use Rattle.net_check.specs.Headers.{is_exit}
use Rattle.net_core.specs.declared.parts.Parts.{Parts}
use Rattle.net_core.specs.Fire.{State, Own, idle, among}
use Rattle.net_core.specs.Parts.{IsByUnit, Rising, state_from, own_from, with_bits, no_part, noted_outs, fires_once}
use Rattle.net_core.proofs.RestoreLemmas.{none_sent, length-false}
use Rattle.net_core.proofs.RestoredLemmas.{owns_first}
use Rattle.snapshot.specs.Fits.{Fits}
use Rattle.snapshot.specs.Laws.{OneForm, PartsFit}

-- ---- numbers that rise are told by their bits

among_all : (P : ℕ → Type 0) (js : List ℕ) (i : ℕ) → All P js → among i js ≡ true → P i
among_all P [] i h e = cc
among_all P (j ∷ js) i h e = by (i == j) refl e (among_all P js i (All-tail P j js h))
  where
    by : (b : Bool) → (i == j) ≡ b → (b || among i js) ≡ true → (among i js ≡ true → P i) → P i
    by true x e later = subst P (sym (eqb-true i j x)) (All-head P j js h)
    by false x e later = later e

among_self : (j : ℕ) (js : List ℕ) → among j (j ∷ js) ≡ true
among_self j js = let e : (j == j) ≡ true = eq-eqb j j refl in rw e refl

among_later : (i j : ℕ) (js : List ℕ) → among i js ≡ true → among i (j ∷ js) ≡ true
among_later i j js e = by (i == j)
  where
    by : (b : Bool) → (b || among i js) ≡ true
    by true = refl
    by false = e

among_rest : (i j : ℕ) (js : List ℕ) → (i ≡ j → ⊥) → among i (j ∷ js) ≡ true → among i js ≡ true
among_rest i j js n e = let z : (i == j) ≡ false = ne_eqb i j n in rw z at e

-- two lists that rise and have the same numbers are one
rising_same : (js ks : List ℕ) → Rising js → Rising ks → ((i : ℕ) → among i js ≡ true → among i ks ≡ true) → ((i : ℕ) → among i ks ≡ true → among i js ≡ true) → js ≡ ks
rising_same [] [] r q f g = refl
rising_same [] (k ∷ ks) r q f g = let e = g k (among_self k ks) in cc
rising_same (j ∷ js) [] r q f g = let e = f j (among_self j js) in cc
rising_same (j ∷ js) (k ∷ ks) r q f g =
    by (cases_eq j k) (λ e. rising_same js ks r.1 q.1
    (λ i h. (let l = among_all (λ y. j < y) js i r.0 h in among_rest i k ks (λ z. omega arith) (f i (among_later i j js h))))
    (λ i h. (let l = among_all (λ y. k < y) ks i q.0 h in among_rest i j js (λ z. omega arith) (g i (among_later i k ks h)))))
  where
    low : (x : ℕ) (xs : List ℕ) → Rising (x ∷ xs) → (i : ℕ) → among i (x ∷ xs) ≡ true → (i ≡ x → ⊥) → x < i
    low x xs r i e n = among_all (λ y. x < y) xs i r.0 (among_rest i x xs n e)

    by : (j ≡ k) ⊎ (j ≡ k → ⊥) → (j ≡ k → js ≡ ks) → j ∷ js ≡ k ∷ ks
    by (inr n) rest =
        let a = low k ks q j (f j (among_self j js)) n in
        let b = low j js r k (g k (among_self k ks)) (λ e. n (sym e)) in
        absurd (omega arith)
    by (inl e) rest = let s = rest e in λ i. e i ∷ s i

set_bit : (bits : List Bool) (js : List ℕ) (i : ℕ) → get_or bits i false ≡ true → get_or (with_bits js bits) i false ≡ true
set_bit bits [] i e = e
set_bit bits (j ∷ js) i e = set_bit (set bits j true) js i (by (cases_eq i j) (cases_lt j (length bits)))
  where
    past : (bits : List Bool) (i : ℕ) → get_or bits i false ≡ true → i < length bits
    past [] i e = cc
    past (b ∷ bits) zero e = omega arith
    past (b ∷ bits) (suc i) e = let r = past bits i e in omega arith

    by : (i ≡ j) ⊎ (i ≡ j → ⊥) → (j < length bits) ⊎ (length bits ≤ j) → get_or (set bits j true) i false ≡ true
    by (inl z) (inl l) = ap (λ n. get_or (set bits j true) n false) z ∙ get_or-set_same bits j true false l
    by (inl z) (inr l) = let m = past bits i e in absurd (omega arith)
    by (inr n) l = get_or-set_other bits j i true false n ∙ e

bit_of : (bits : List Bool) (js : List ℕ) (i : ℕ) → i < length bits → among i js ≡ true → get_or (with_bits js bits) i false ≡ true
bit_of bits [] i l e = cc
bit_of bits (j ∷ js) i l e = by (cases_eq i j) (bit_of (set bits j true) js i (let m = length-set bits j true in omega arith))
  where
    by : (i ≡ j) ⊎ (i ≡ j → ⊥) → (among i js ≡ true → get_or (with_bits js (set bits j true)) i false ≡ true) → get_or (with_bits js (set bits j true)) i false ≡ true
    by (inl z) later = set_bit (set bits j true) js i (ap (λ n. get_or (set bits j true) n false) z ∙ get_or-set_same bits j true false (omega arith))
    by (inr n) later = later (among_rest i j js n e)

of_bit : (bits : List Bool) (js : List ℕ) (i : ℕ) → get_or bits i false ≡ false → get_or (with_bits js bits) i false ≡ true → among i js ≡ true
of_bit bits [] i n e = let z : false ≡ true = sym n ∙ e in cc
of_bit bits (j ∷ js) i n e = by (cases_eq i j) (λ h. of_bit (set bits j true) js i h e)
  where
    by : (i ≡ j) ⊎ (i ≡ j → ⊥) → (get_or (set bits j true) i false ≡ false → among i js ≡ true) → among i (j ∷ js) ≡ true
    by (inl z) later = let y : (i == j) ≡ true = eq-eqb i j z in rw y refl
    by (inr m) later = among_later i j js (later (get_or-set_other bits j i true false m ∙ n))

same_sent : (outs : ℕ) (js ks : List ℕ) → Rising js → Rising ks → All (λ j. j < outs) js → All (λ j. j < outs) ks → with_bits js (replicate outs false) ≡ with_bits ks (replicate outs false) → js ≡ ks
same_sent outs js ks r q a b e = rising_same js ks r q (λ i h. one js ks a e i h) (λ i h. one ks js b (sym e) i h)
  where
    one : (js ks : List ℕ) → All (λ j. j < outs) js → with_bits js (replicate outs false) ≡ with_bits ks (replicate outs false) → (i : ℕ) → among i js ≡ true → among i ks ≡ true
    one js ks a e i h =
        let l = among_all (λ j. j < outs) js i a h in
        let m = length-false outs in
        of_bit (replicate outs false) ks i (none_sent (replicate outs false) outs refl i) (sym (ap (λ x. get_or x i false) e) ∙ bit_of (replicate outs false) js i (omega arith) h)

-- ---- data of one state

none_within : (js : List ℕ) → All (λ j. j < 0) js → js ≡ []
none_within [] h = refl
none_within (j ∷ js) h = let l = All-head (λ j. j < 0) j js h in absurd (omega arith)

module _ (net : Net) (p q : Parts) (checked : IsChecked net) (a : IsByUnit net p) (b : IsByUnit net q) (same : state_from net p ≡ state_from net q) where
  own_same : (u : ℕ) → u < length net.units → own_from (kind_of net u) p u ≡ own_from (kind_of net u) q u
  own_same u l = sym (owns_first p net.units u l) ∙ ap (λ (s : State). get_or s.own u idle) same ∙ owns_first q net.units u l

  sent_at : (u : ℕ) → u < length net.units → get_or p.sent u [] ≡ get_or q.sent u []
  sent_at u l = by (kind_of net u) (own_same u l) (a.within u) (b.within u)
    where
      by : (k : Kind) → own_from k p u ≡ own_from k q u → All (λ j. j < noted_outs k) (get_or p.sent u []) → All (λ j. j < noted_outs k) (get_or q.sent u []) → get_or p.sent u [] ≡ get_or q.sent u []
      by (Fork w outs) e x y = same_sent outs (get_or p.sent u []) (get_or q.sent u []) (a.rising u) (b.rising u) x y (ap (λ (o : Own). o.sent) e)
      by Entry e x y = none_within (get_or p.sent u []) x ∙ sym (none_within (get_or q.sent u []) y)
      by k e x y = none_within (get_or p.sent u []) x ∙ sym (none_within (get_or q.sent u []) y)

  fired_at : (u : ℕ) → u < length net.units → get_or p.fired u false ≡ get_or q.fired u false
  fired_at u l = by (kind_of net u) refl (own_same u l)
    where
      by : (k : Kind) → kind_of net u ≡ k → own_from k p u ≡ own_from k q u → get_or p.fired u false ≡ get_or q.fired u false
      by Entry is e = ap (λ (o : Own). o.fired) e
      by (Param j) is e = ap (λ (o : Own). o.fired) e
      by Exit is e = ap (λ (o : Own). o.fired) e
      by k is e = a.fired u (ap fires_once is) ∙ sym (b.fired u (ap fires_once is))

  queue_at : (u : ℕ) → u < length net.units → get_or p.queues u no_part ≡ get_or q.queues u no_part
  queue_at u l = by (kind_of net u) refl (own_same u l)
    where
      by : (k : Kind) → kind_of net u ≡ k → own_from k p u ≡ own_from k q u → get_or p.queues u no_part ≡ get_or q.queues u no_part
      by (Lsq n d ps gs f) is e = λ i. record { next = (e i).queue.next; entries = (e i).queue.items }
      by Entry is e = a.queues u (ap is_lsq is) ∙ sym (b.queues u (ap is_lsq is))
      by k is e = a.queues u (ap is_lsq is) ∙ sym (b.queues u (ap is_lsq is))

  value_same : p.value ≡ q.value
  value_same =
      let is : kind_of net checked.one_exit.unit ≡ Exit = exit_of (kind_of net checked.one_exit.unit) checked.one_exit.here in
      ap (λ (o : Own). o.value) (subst (λ k. own_from k p checked.one_exit.unit ≡ own_from k q checked.one_exit.unit) is (own_same checked.one_exit.unit checked.one_exit.within))
    where
      exit_of : (k : Kind) → is_exit k ≡ true → k ≡ Exit
      exit_of Exit e = refl
      exit_of k e = cc

  pub same_parts : p ≡ q
  same_parts =
      let sent = ext_get_or [] p.sent q.sent (a.sent_long ∙ sym b.sent_long) (λ u l. sent_at u (let n = a.sent_long in omega arith)) in
      let fired = ext_get_or false p.fired q.fired (a.fired_long ∙ sym b.fired_long) (λ u l. fired_at u (let n = a.fired_long in omega arith)) in
      let queues = ext_get_or no_part p.queues q.queues (a.queues_long ∙ sym b.queues_long) (λ u l. queue_at u (let n = a.queues_long in omega arith)) in
      let value = value_same in
      λ i. record {
        given = record { scalars = (same i).scalars; arrays = (same i).arrays };
        tokens = (same i).tokens;
        sent = sent i;
        fired = fired i;
        value = value i;
        queues = queues i;
        strays = (same i).strays;
      }

pub one_form : OneForm
one_form net p q checked a b same = same_parts net p q checked a b same

pub parts_fit : PartsFit
parts_fit net s p checked h a is = subst (Fits net) (sym (one_form net p h.parts checked a h.fits.by_unit (is ∙ sym h.is))) h.fits
