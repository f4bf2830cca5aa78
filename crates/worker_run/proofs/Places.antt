-- What holds at each place of a list that was cut in two, with a write to one place of the first part and to the first place of the
-- second.
use Rattle.std.proofs.Common.{◌≡◌, ◌≢◌, ◌⊎◌, inl, inr, ℕ, zero, suc, ◌+◌, ◌-◌, ◌<◌, ◌≤◌, List, [], ◌∷◌, ◌++◌, length, get_or, set, refl, ap, ◌∙◌, sym, subst, arith}
use Rattle.std.proofs.Math.ListN.{length-set}
use Rattle.std.proofs.lemmas.Bool.{cases_eq, cases_lt}
use Rattle.std.proofs.lemmas.Grind.{get_or-set_at}
use Rattle.std.proofs.lemmas.List.{get_or-set_other, get_or_append_left, get_or-append_right, get_or_default}

pub each_set : {X : Type 0} (P : ℕ → X → Type 0) (xs : List X) (at : ℕ) (y : X)
    → ((i : ℕ) (d : X) → i < length xs → i ≢ at → P i (get_or xs i d))
    → P at y
    → (i : ℕ) (d : X) → i < length (set xs at y) → P i (get_or (set xs at y) i d)
each_set P xs at y others here i d in_set =
    let in_xs : i < length xs = omega (arith, length-set xs at y) in
    elim (cases_eq i at) [
      | inl e ↦ subst (λ v. P i v) (sym (get_or-set_at xs at i y d e (omega arith))) (subst (λ k. P k y) (sym e) here)
      | inr n ↦ subst (λ v. P i v) (sym (get_or-set_other xs at i y d n)) (others i d in_xs n)
    ]

-- a relation that holds at the written place, and of each thing and itself, holds at each place
pub related_set : {X : Type 0} (R : X → X → Type 0) (xs : List X) (at : ℕ) (y e : X) → ((x : X) → R x x) → R (get_or xs at e) y
    → (i : ℕ) (d : X) → i < length xs → R (get_or xs i d) (get_or (set xs at y) i d)
related_set R xs at y e same here i d l =
    elim (cases_eq i at) [
      | inl q ↦ subst (R (get_or xs i d)) (sym (get_or-set_at xs at i y d q (omega arith)))
          (subst (λ k. R (get_or xs k d) y) (sym q) (subst (λ v. R v y) (get_or_default xs at e d (omega (arith, l, q))) here))
      | inr n ↦ subst (R (get_or xs i d)) (sym (get_or-set_other xs at i y d n)) (same (get_or xs i d))
    ]

pub each_of_two : {X : Type 0} (R : X → X → Type 0) (xs low high : List X) (n i : ℕ) (a b : X)
    → xs ≡ low ++ high → length low ≡ n → i < n → 0 < length high
    → ((x : X) → R x x)
    → (x y : X) → R (get_or low i x) a → R (get_or high 0 y) b
    → (k : ℕ) (d : X) → k < length xs → R (get_or xs k d) (get_or (set low i a ++ set high 0 b) k d)
each_of_two R xs low high n i a b is len in_low some same x y here there k d in_xs =
    let all : get_or xs k d ≡ get_or (low ++ high) k d = ap (λ l. get_or l k d) is in
    let long : length (set low i a) ≡ n = length-set low i a ∙ len in
    elim (cases_lt k n) [
      | inl before ↦ (
          let new : get_or (set low i a ++ set high 0 b) k d ≡ get_or (set low i a) k d = get_or_append_left (set low i a) (set high 0 b) d k (omega (arith, before, long)) in
          let old : get_or xs k d ≡ get_or low k d = all ∙ get_or_append_left low high d k (omega (arith, before, len)) in
          let step : R (get_or low k d) (get_or (set low i a) k d) = related_set R low i a x same here k d (omega (arith, before, len)) in
          subst (λ v. R v (get_or (set low i a ++ set high 0 b) k d)) (sym old) (subst (λ v. R (get_or low k d) v) (sym new) step))
      | inr past ↦ (
          let new : get_or (set low i a ++ set high 0 b) k d ≡ get_or (set high 0 b) (k - n) d = get_or-append_right (set low i a) (set high 0 b) n k d long past in
          let old : get_or xs k d ≡ get_or high (k - n) d = all ∙ get_or-append_right low high n k d len past in
          let total : length xs ≡ length low + length high = ap length is ∙ Rattle.std.proofs.Common.length-append low high in
          let step : R (get_or high (k - n) d) (get_or (set high 0 b) (k - n) d) = related_set R high 0 b y same there (k - n) d (omega (arith, past, in_xs, total, len)) in
          subst (λ v. R v (get_or (set low i a ++ set high 0 b) k d)) (sym old) (subst (λ v. R (get_or high (k - n) d) v) (sym new) step))
    ]

-- the two places that were written
pub first_of_two : {X : Type 0} (low high : List X) (n i : ℕ) (a b d : X) → length low ≡ n → i < n → get_or (set low i a ++ set high 0 b) i d ≡ a
first_of_two low high n i a b d len in_low =
    get_or_append_left (set low i a) (set high 0 b) d i (omega (arith, length-set low i a)) ∙ get_or-set_at low i i a d refl (omega arith)

pub second_of_two : {X : Type 0} (low high : List X) (n i : ℕ) (a b d : X) → length low ≡ n → 0 < length high → get_or (set low i a ++ set high 0 b) n d ≡ b
second_of_two low high n i a b d len some =
    get_or-append_right (set low i a) (set high 0 b) n n d (length-set low i a ∙ len) (omega arith) ∙ get_or-set_at high 0 (n - n) b d (omega arith) some

pub length_of_two : {X : Type 0} (xs low high : List X) (i : ℕ) (a b : X) → xs ≡ low ++ high → length (set low i a ++ set high 0 b) ≡ length xs
length_of_two xs low high i a b is =
    Rattle.std.proofs.Common.length-append (set low i a) (set high 0 b)
    ∙ (ap (λ n. n + length (set high 0 b)) (length-set low i a) ∙ (ap (λ n. length low + n) (length-set high 0 b) ∙ (sym (Rattle.std.proofs.Common.length-append low high) ∙ sym (ap length is))))

-- and where they stood
pub first_was : {X : Type 0} (xs low high : List X) (n i : ℕ) (d x : X) → xs ≡ low ++ high → length low ≡ n → i < n → get_or xs i d ≡ get_or low i x
first_was xs low high n i d x is len in_low = ap (λ l. get_or l i d) is ∙ (get_or_append_left low high d i (omega (arith, in_low, len)) ∙ get_or_default low i d x (omega (arith, in_low, len)))

pub second_was : {X : Type 0} (xs low high : List X) (n : ℕ) (d y : X) → xs ≡ low ++ high → length low ≡ n → 0 < length high → get_or xs n d ≡ get_or high 0 y
second_was xs low high n d y is len some =
    let zero_at : n - n ≡ 0 = omega arith in
    ap (λ l. get_or l n d) is ∙ (get_or-append_right low high n n d len (omega arith) ∙ (ap (λ k. get_or high k d) zero_at ∙ get_or_default high 0 d y some))
