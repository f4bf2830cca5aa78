-- The rules over a width, for the patterns of whole numbers: each gives the pattern of the exact result.
use Rattle.std.proofs.Common.{◌≡◌, ℕ, ◌+◌, ◌-◌, ◌*◌, ◌%◌, ◌^◌, ◌<◌, ◌≤◌, ◌≢◌, Bool, true, false, cond, eqb, refl, sym, ◌∙◌, ap, subst, arith}
use Rattle.std.specs.Prelude.{ℤ, pos, negsuc, ◌+ℤ◌, ◌-ℤ◌, ◌*ℤ◌, neg_ℤ, ◌≤ℤ◌, ◌<ℤ◌, ◌==◌, not, int_lt, int_le, int_div, int_rem}
use Rattle.std.specs.Int.{from_bool, int_shr}
use Rattle.std.proofs.lemmas.Bool.{cond-false}
use Rattle.std.proofs.lemmas.Int.{ints}
use Rattle.std.proofs.lemmas.Nat.{pow_pos, shr_le}
use Rattle.std.proofs.Math.Nat.{mod-eq_of_lt, div-le_self, mod-le}
use borrow.Author.Differences.{same_in, same_out, sum_is_lem, neg_is}
use borrow.Author.Tests.{eqb-true, eqb-false, ne_eqb}
use Rattle.el_base.specs.Numbers.{residue, signed_number, number_in, IsWithin}
use Rattle.word_ops.specs.Operations.{sum_of, difference_of, product_of, negative_of, flipped_of, left_shift_of, right_shift_of, signed_shift_of, quotient_of, remainder_of, signed_quotient_of, signed_remainder_of, extension_of}
use Rattle.word_ops.specs.Laws.{IsTruthOf}
use Rattle.word_ops.proofs.Residues.{same_residue, residue_away, residue_below, residue-residue, residue-sum, residue-difference, residue-product, residue-negative, residue-scaled, residue-narrower}
use Rattle.word_ops.proofs.Ranges.{number-residue, same_from_residue}

-- an operand that is a pattern stays as it is when it is reduced
module _ (w : ℕ) where
  pub summed : (x y : ℤ) → sum_of w (residue w x % 2 ^ w) (residue w y % 2 ^ w) ≡ residue w (x +ℤ y)
  summed x y = (λ i. sum_of w (residue-residue w x i) (residue-residue w y i)) ∙ residue-sum w x y

  pub subtracted : (x y : ℤ) → difference_of w (residue w x % 2 ^ w) (residue w y % 2 ^ w) ≡ residue w (x -ℤ y)
  subtracted x y = (λ i. difference_of w (residue-residue w x i) (residue-residue w y i)) ∙ residue-difference w x y

  pub multiplied : (x y : ℤ) → product_of w (residue w x % 2 ^ w) (residue w y % 2 ^ w) ≡ residue w (x *ℤ y)
  multiplied x y = (λ i. product_of w (residue-residue w x i) (residue-residue w y i)) ∙ residue-product w x y

  pub negated : (x : ℤ) → negative_of w (residue w x % 2 ^ w) ≡ residue w (neg_ℤ x)
  negated x = ap (negative_of w) (residue-residue w x) ∙ residue-negative w x

  pub joined : (f : ℕ → ℕ → ℕ) (x y : ℤ) → f (residue w x % 2 ^ w) (residue w y % 2 ^ w) ≡ f (residue w x) (residue w y)
  joined f x y = λ i. f (residue-residue w x i) (residue-residue w y i)

  -- a flip is -1 - x
  pub flipped : (x : ℤ) → flipped_of w (residue w x % 2 ^ w) ≡ residue w (negsuc 0 -ℤ x)
  flipped x =
      let l = residue_away w x in
      let m = 2 ^ w in
      let r = residue w x in
      let lt : r < m = residue_below w x in
      let small : (m - 1 - r) % m ≡ m - 1 - r = mod-eq_of_lt (omega arith) in
      let far : pos (m - 1 - r) +ℤ pos (l.1 * m) ≡ (negsuc 0 -ℤ x) +ℤ pos ((l.0 + 1) * m) = omega (arith, same_in, same_out, sum_is_lem, neg_is, l.2) in
      ap (flipped_of w) (residue-residue w x) ∙ sym small ∙ same_residue w (pos (m - 1 - r)) (negsuc 0 -ℤ x) l.1 (l.0 + 1) far

-- ---- shifts by an amount below the width

module _ (w : ℕ) (fits : w ≤ 2 ^ w) (x : ℤ) (k : ℕ) (h : k < w) where
  amount : residue w (pos k) % 2 ^ w % w ≡ k
  amount =
      let kept : k % 2 ^ w ≡ k = mod-eq_of_lt (omega arith) in
      ap (λ n. n % 2 ^ w % w) kept ∙ ap (λ n. n % w) kept ∙ mod-eq_of_lt h

  pub shifted_left : left_shift_of w (residue w x % 2 ^ w) (residue w (pos k) % 2 ^ w) ≡ residue w (x *ℤ pos (2 ^ k))
  shifted_left =
      let l = residue_away w x in
      (λ i. residue w (pos (residue-residue w x i) *ℤ pos (2 ^ amount i))) ∙ residue-scaled w (pos (residue w x)) x (pos (2 ^ k)) l.0 l.1 l.2

  shifted : (s : Bool) → 0 < w → IsWithin s w x → residue w (int_shr (number_in s w (residue w x % 2 ^ w)) (residue w (pos k) % 2 ^ w % w)) ≡ residue w (int_shr x k)
  shifted s some r =
      (λ i. residue w (int_shr (number_in s w (residue-residue w x i)) (amount i))) ∙ ap (λ z. residue w (int_shr z k)) (number-residue s w x some r)

  pub shifted_signed : 0 < w → IsWithin true w x → signed_shift_of w (residue w x % 2 ^ w) (residue w (pos k) % 2 ^ w) ≡ residue w (int_shr x k)
  shifted_signed some r = shifted true some r

  pub shifted_right : 0 < w → IsWithin false w x → right_shift_of w (residue w x % 2 ^ w) (residue w (pos k) % 2 ^ w) ≡ residue w (int_shr x k)
  shifted_right some r =
      let a = residue w x % 2 ^ w in
      let b = residue w (pos k) % 2 ^ w in
      let lt : a < 2 ^ w = residue_below w (pos (residue w x)) in
      sym (mod-eq_of_lt (omega (arith, shr_le a (b % w)))) ∙ shifted false some r

-- ---- quotients and remainders

zero_within : (s : Bool) (w : ℕ) → 0 < w → IsWithin s w (pos 0)
zero_within true w h = record { above = omega (arith, ints); below = omega (arith, ints, pow_pos (w - 1)) }
zero_within false w h = record { above = omega (arith, ints); below = omega (arith, ints, pow_pos w) }

zero_residue : (w : ℕ) → residue w (pos 0) ≡ 0
zero_residue w = mod-eq_of_lt (pow_pos w)

zero_from_residue : (s : Bool) (w : ℕ) (x : ℤ) → 0 < w → IsWithin s w x → residue w x % 2 ^ w ≡ 0 → x ≡ pos 0
zero_from_residue s w x some r e = same_from_residue s w x (pos 0) some r (zero_within s w some) (sym (residue-residue w x) ∙ e ∙ sym (zero_residue w))

module _ (s : Bool) (w : ℕ) (some : 0 < w) (x y : ℤ) (r : IsWithin s w x) (t : IsWithin s w y) where
  divided : (f : ℤ → ℤ → ℤ) → ¬ (y ≡ pos 0) → cond (eqb (residue w y % 2 ^ w) 0) 0 (residue w (f (number_in s w (residue w x % 2 ^ w)) (number_in s w (residue w y % 2 ^ w)))) ≡ residue w (f x y)
  divided f n =
      let b = residue w y % 2 ^ w in
      cond-false (eqb b 0) 0 (residue w (f (number_in s w (residue w x % 2 ^ w)) (number_in s w b))) (ne_eqb b 0 (λ e. n (zero_from_residue s w y some t e)))
      ∙ (λ i. residue w (f (number_in s w (residue-residue w x i)) (number_in s w (residue-residue w y i)))) ∙ (λ i. residue w (f (number-residue s w x some r i) (number-residue s w y some t i)))

module _ (w : ℕ) (some : 0 < w) (x y : ℤ) where
  pub divided_signed : IsWithin true w x → IsWithin true w y → ¬ (y ≡ pos 0) → signed_quotient_of w (residue w x % 2 ^ w) (residue w y % 2 ^ w) ≡ residue w (int_div x y)
  divided_signed r t n = divided true w some x y r t int_div n

  pub rest_signed : IsWithin true w x → IsWithin true w y → ¬ (y ≡ pos 0) → signed_remainder_of w (residue w x % 2 ^ w) (residue w y % 2 ^ w) ≡ residue w (int_rem x y)
  rest_signed r t n = divided true w some x y r t int_rem n

  pub divided_unsigned : IsWithin false w x → IsWithin false w y → ¬ (y ≡ pos 0) → quotient_of (residue w x % 2 ^ w) (residue w y % 2 ^ w) ≡ residue w (int_div x y)
  divided_unsigned r t n =
      let a = residue w x % 2 ^ w in
      let b = residue w y % 2 ^ w in
      let lt : a < 2 ^ w = residue_below w (pos (residue w x)) in
      ap (λ q. cond (eqb b 0) 0 q) (sym (mod-eq_of_lt (omega (arith, div-le_self a b)))) ∙ divided false w some x y r t int_div n

  pub rest_unsigned : IsWithin false w x → IsWithin false w y → ¬ (y ≡ pos 0) → remainder_of (residue w x % 2 ^ w) (residue w y % 2 ^ w) ≡ residue w (int_rem x y)
  rest_unsigned r t n =
      let a = residue w x % 2 ^ w in
      let b = residue w y % 2 ^ w in
      let lt : a < 2 ^ w = residue_below w (pos (residue w x)) in
      ap (λ q. cond (eqb b 0) 0 q) (sym (mod-eq_of_lt (omega (arith, mod-le a b)))) ∙ divided false w some x y r t int_rem n

-- ---- truth values

truth_from : (b : Bool) (P : Type 0) → (b ≡ true → P) → (b ≡ false → ¬ P) → IsTruthOf (from_bool b) P
truth_from true P f g = (λ p. refl, λ n. absurd (n (f refl)))
truth_from false P f g = (λ p. absurd (g refl p), λ n. refl)

pub told_zero : (w : ℕ) (s : Bool) (x : ℤ) → 0 < w → IsWithin s w x → IsTruthOf (from_bool (residue w x % 2 ^ w == 0)) (x ≡ pos 0)
told_zero w s x some r =
    let a = residue w x % 2 ^ w in
    truth_from (eqb a 0) (x ≡ pos 0) (λ e. zero_from_residue s w x some r (eqb-true a 0 e)) (λ e q. eqb-false a 0 e (residue-residue w x ∙ ap (residue w) q ∙ zero_residue w))

module _ (w : ℕ) (s : Bool) (some : 0 < w) (x y : ℤ) (r : IsWithin s w x) (t : IsWithin s w y) where
  same : eqb (residue w x % 2 ^ w) (residue w y % 2 ^ w) ≡ true → x ≡ y
  same e = same_from_residue s w x y some r t (sym (residue-residue w x) ∙ eqb-true (residue w x % 2 ^ w) (residue w y % 2 ^ w) e ∙ residue-residue w y)

  other : eqb (residue w x % 2 ^ w) (residue w y % 2 ^ w) ≡ false → ¬ (x ≡ y)
  other e q = eqb-false (residue w x % 2 ^ w) (residue w y % 2 ^ w) e (ap (λ z. residue w z % 2 ^ w) q)

  pub told_equal : IsTruthOf (from_bool (residue w x % 2 ^ w == residue w y % 2 ^ w)) (x ≡ y)
  told_equal = truth_from (eqb (residue w x % 2 ^ w) (residue w y % 2 ^ w)) (x ≡ y) same other

  pub told_unequal : IsTruthOf (from_bool (not (residue w x % 2 ^ w == residue w y % 2 ^ w))) (x ≢ y)
  told_unequal = by (eqb (residue w x % 2 ^ w) (residue w y % 2 ^ w)) same other
    where
      by : (b : Bool) → (b ≡ true → x ≡ y) → (b ≡ false → ¬ (x ≡ y)) → IsTruthOf (from_bool (not b)) (x ≢ y)
      by true f g = (λ n. absurd (n (f refl)), λ n. refl)
      by false f g = (λ n. refl, λ n. absurd (n (g refl)))

  read_first : number_in s w (residue w x % 2 ^ w) ≡ x
  read_first = ap (number_in s w) (residue-residue w x) ∙ number-residue s w x some r

  read_second : number_in s w (residue w y % 2 ^ w) ≡ y
  read_second = ap (number_in s w) (residue-residue w y) ∙ number-residue s w y some t

  pub told_less : IsTruthOf (from_bool (int_lt (number_in s w (residue w x % 2 ^ w)) (number_in s w (residue w y % 2 ^ w)))) (x <ℤ y)
  told_less = subst (λ b. IsTruthOf (from_bool b) (x <ℤ y)) (λ i. int_lt (sym read_first i) (sym read_second i)) (truth_from (int_lt x y) (x <ℤ y) (λ e. omega (arith, ints)) (λ e q. omega (arith, ints)))

  pub told_at_most : IsTruthOf (from_bool (int_le (number_in s w (residue w x % 2 ^ w)) (number_in s w (residue w y % 2 ^ w)))) (x ≤ℤ y)
  told_at_most = subst (λ b. IsTruthOf (from_bool b) (x ≤ℤ y)) (λ i. int_le (sym read_first i) (sym read_second i)) (truth_from (int_le x y) (x ≤ℤ y) (λ e. omega (arith, ints)) (λ e q. omega (arith, ints)))

-- ---- extensions and cuts

pub extended_signed : (w v : ℕ) (x : ℤ) → 0 < w → IsWithin true w x → extension_of w v (residue w x % 2 ^ w) ≡ residue v x
extended_signed w v x some r = ap (residue v) (ap (signed_number w) (residue-residue w x) ∙ number-residue true w x some r)

pub extended_unsigned : (w v : ℕ) (x : ℤ) → 0 < w → 2 ^ w ≤ 2 ^ v → IsWithin false w x → residue w x % 2 ^ w ≡ residue v x
extended_unsigned w v x some le r =
    let a = residue w x % 2 ^ w in
    let lt : a < 2 ^ w = residue_below w (pos (residue w x)) in
    sym (mod-eq_of_lt (omega arith)) ∙ ap (residue v) (ap pos (residue-residue w x) ∙ number-residue false w x some r)

pub cut : (v w : ℕ) (x : ℤ) → w ≤ v → residue w (pos (residue v x % 2 ^ v)) ≡ residue w x
cut v w x h = ap (λ n. residue w (pos n)) (residue-residue v x) ∙ residue-narrower w v x h
