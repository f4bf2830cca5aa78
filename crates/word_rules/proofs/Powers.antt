-- Signed quotients and remainders by powers of two.
use Rattle.std.proofs.Common.{◌≡◌, ℕ, zero, suc, ◌+◌, ◌-◌, ◌*◌, ◌/◌, ◌%◌, ◌^◌, ◌<◌, ◌≤◌, Bool, true, false, lit<, lit≤, cond, eqb, ltb, refl, sym, ◌∙◌, ap, subst, arith}
use Rattle.std.specs.Prelude.{ℤ, pos, negsuc, ◌+ℤ◌, ◌-ℤ◌, ◌*ℤ◌, neg_ℤ, int_div, bit_and}
use Rattle.std.specs.Int.{int_shr}
use Rattle.std.specs.Int.Bits.{and_block, and_zero_r}
use Rattle.std.proofs.lemmas.Bool.{cond_both, ltb-true, ltb-false}
use Rattle.std.proofs.lemmas.Int.{ints}
use Rattle.std.proofs.lemmas.Nat.{pow_pos, pow_below, pow-add, and_mask, div-add-mod', div-mul-add, div_below, mod_below}
use Rattle.std.proofs.lemmas.Nat.Bits.{ones_shr}
use Rattle.std.proofs.Math.Nat.{mod-eq_of_lt, div-eq_of_lt, div-eq-sub-div, div-eq_of_lt-le}
use Rattle.std.proofs.Math.Pow.{pow_mono}
use borrow.Author.Differences.{same_in, sum_is_lem, neg_is}
use borrow.Author.Tests.{eqb-true}
use Rattle.el_base.specs.declared.operation.Op2.TheVariants.{Sub32, Sub64, And32, And64, Shrs32, Shrs64, Divs32, Divs64, Rems32, Rems64}
use Rattle.el_base.specs.Numbers.{residue, signed_number, IsWithin}
use Rattle.word_ops.specs.Operations.{op2_on, op2_result, sum_of, difference_of, right_shift_of, signed_shift_of, signed_quotient_of, signed_remainder_of}
use Rattle.word_ops.proofs.Exact.{summed, subtracted, shifted_signed, divided_signed, rest_signed}
use Rattle.word_ops.proofs.Residues.{same_residue, residue_below}
use Rattle.word_ops.proofs.Words.{half_twice}
use Rattle.word_rules.specs.Quotients.{DividesByShift, LeavesByMask, biased32, biased64}
use Rattle.word_rules.proofs.Signs.{remainder_is}
use Rattle.word_rules.proofs.Patterns.{kept, right_shift_small, residue_signed, signed_within}

-- ---- whole numbers

-- what is added to a number before the shift
abbrev bias : ℤ → ℕ → ℕ
bias (pos a) b = 0
bias (negsuc a) b = b - 1

-- with the bias a quotient that is rounded down is truncated toward zero; b stands for 2 ^ k
rounded : (x : ℤ) (k : ℕ) → int_shr (x +ℤ pos (bias x (2 ^ k))) k ≡ int_div x (pos (2 ^ k))
rounded (pos a) k = ap (λ z. int_shr z k) (same_in (pos a +ℤ pos 0) (pos a) (omega (arith, sum_is_lem)))
rounded (negsuc a) k = cases (ltb (suc a) (2 ^ k)) refl
  where
    cases : (t : Bool) → ltb (suc a) (2 ^ k) ≡ t → int_shr (negsuc a +ℤ pos (2 ^ k - 1)) k ≡ neg_ℤ (pos (suc a / 2 ^ k))
    cases true e =
        let lt = ltb-true (suc a) (2 ^ k) e in
        let z : negsuc a +ℤ pos (2 ^ k - 1) ≡ pos (2 ^ k - 1 - suc a) = same_in (negsuc a +ℤ pos (2 ^ k - 1)) (pos (2 ^ k - 1 - suc a)) (omega (arith, sum_is_lem)) in
        let none : (2 ^ k - 1 - suc a) / 2 ^ k ≡ 0 = div-eq_of_lt (omega arith) in
        let zero : suc a / 2 ^ k ≡ 0 = div-eq_of_lt lt in
        ap (λ y. int_shr y k) z ∙ ap pos none ∙ ap (λ q. neg_ℤ (pos q)) (sym zero)
    cases false e =
        let le = ltb-false (suc a) (2 ^ k) e in
        let some = pow_pos k in
        let z : negsuc a +ℤ pos (2 ^ k - 1) ≡ negsuc (suc a - 2 ^ k) = same_in (negsuc a +ℤ pos (2 ^ k - 1)) (negsuc (suc a - 2 ^ k)) (omega (arith, sum_is_lem)) in
        let step : suc a / 2 ^ k ≡ (suc a - 2 ^ k) / 2 ^ k + 1 = div-eq-sub-div some le in
        ap (λ y. int_shr y k) z ∙ same_in (negsuc ((suc a - 2 ^ k) / 2 ^ k)) (neg_ℤ (pos (suc a / 2 ^ k))) (omega (arith, neg_is))

-- the biased number is in range
biased_within : (w k : ℕ) (x : ℤ) → 0 < w → k < w → IsWithin true w x → IsWithin true w (x +ℤ pos (bias x (2 ^ k)))
biased_within w k (pos a) some l r = record { above = omega (arith, ints, r.above); below = omega (arith, ints, r.below) }
biased_within w k (negsuc a) some l r =
    let le : 2 ^ k ≤ 2 ^ (w - 1) = pow_mono {i = k} {j = w - 1} (omega arith) in
    record { above = omega (arith, ints, r.above, pow_pos k); below = omega (arith, ints, pow_pos k) }

-- ---- the lowest k bits

module _ (w k : ℕ) (l : k < w) where
  whole : 2 ^ (w - k) * 2 ^ k ≡ 2 ^ w
  whole = let width : (w - k) + k ≡ w = omega arith in sym (pow-add 2 (w - k) k) ∙ ap (λ i. 2 ^ i) width

  -- a mask of the bits from k on leaves them out
  masked : (p : ℕ) → p < 2 ^ w → bit_and p (2 ^ w - 2 ^ k) ≡ p / 2 ^ k * 2 ^ k
  masked p h =
      let some = pow_pos k in
      let t = whole in
      let high : p / 2 ^ k < 2 ^ (w - k) = div_below p (2 ^ k) (2 ^ (w - k)) some (omega arith) in
      let mask : 2 ^ w - 2 ^ k ≡ (2 ^ (w - k) - 1) * 2 ^ k + 0 = times (2 ^ (w - k)) (2 ^ k) (2 ^ w) (pow_pos (w - k)) t in
      (λ i. bit_and (sym (div-add-mod' p (2 ^ k)) i) (mask i))
      ∙ and_block k (p / 2 ^ k) (2 ^ (w - k) - 1) (p % 2 ^ k) 0 (mod_below p (2 ^ k) some) some
      ∙ (λ i. (and_mask (p / 2 ^ k) (w - k) ∙ mod-eq_of_lt high) i * 2 ^ k + and_zero_r (p % 2 ^ k) i) ∙ omega arith
    where
      times : (m b c : ℕ) → 0 < m → m * b ≡ c → c - b ≡ (m - 1) * b + 0
      times zero b c some e = elim some [ ]
      times (suc m) b c some e = let d : suc m - 1 ≡ m = omega arith in rw d (omega arith)

  -- quotients of the patterns of negative numbers
  high_quotient : (c : ℕ) → c < 2 ^ w → (2 ^ w - 1 - c) / 2 ^ k * 2 ^ k + (c / 2 ^ k + 1) * 2 ^ k ≡ 2 ^ w
  high_quotient c h =
      let some = pow_pos k in
      let t = whole in
      let high : c / 2 ^ k < 2 ^ (w - k) = div_below c (2 ^ k) (2 ^ (w - k)) some (omega arith) in
      by (2 ^ (w - k)) (2 ^ k) (c / 2 ^ k) (c % 2 ^ k) (2 ^ (w - k) - 1 - c / 2 ^ k) (omega arith) (mod_below c (2 ^ k) some) t (div-add-mod' c (2 ^ k))
    where
      by : (m b q r u : ℕ) → q + 1 + u ≡ m → r < b → m * b ≡ 2 ^ w → q * b + r ≡ c → (2 ^ w - 1 - c) / b * b + (q + 1) * b ≡ 2 ^ w
      by m b q r u e lt t f =
          let product : (q + 1 + u) * b ≡ 2 ^ w = ap (λ n. n * b) e ∙ t in
          let parts : 2 ^ w - 1 - c ≡ u * b + (b - 1 - r) = omega arith in
          let quotient : (2 ^ w - 1 - c) / b ≡ u = ap (λ n. n / b) parts ∙ div-mul-add u b (b - 1 - r) (omega arith) in
          rw quotient (omega arith)

  -- the pattern of y with the mask is that of the quotient by 2 ^ k, rounded down, times 2 ^ k
  masked_residue : (y : ℤ) → 0 < w → IsWithin true w y → bit_and (residue w y % 2 ^ w) ((2 ^ w - 2 ^ k) % 2 ^ w) ≡ residue w (int_shr y k *ℤ pos (2 ^ k))
  masked_residue y some r = (λ i. bit_and (kept w (residue w y) (residue_below w y) i) (kept w (2 ^ w - 2 ^ k) (omega (arith, pow_pos k, pow_pos w)) i)) ∙ masked (residue w y) (residue_below w y) ∙ cases y r
    where
      cases : (y : ℤ) → IsWithin true w y → residue w y / 2 ^ k * 2 ^ k ≡ residue w (int_shr y k *ℤ pos (2 ^ k))
      cases (pos c) r =
          let t = half_twice w some in
          let lt : c < 2 ^ w = omega (arith, ints, r.below) in
          ap (λ n. n / 2 ^ k * 2 ^ k) (kept w c lt) ∙ sym (kept w (c / 2 ^ k * 2 ^ k) (omega (arith, div-add-mod' c (2 ^ k))))
      cases (negsuc c) r =
          let t = half_twice w some in
          let lt : c < 2 ^ w = omega (arith, ints, r.above) in
          let p = (2 ^ w - 1 - c) / 2 ^ k * 2 ^ k in
          let z = neg_ℤ (pos (suc (c / 2 ^ k) * 2 ^ k)) in
          let e = high_quotient c lt in
          ap (λ n. (2 ^ w - 1 - n) / 2 ^ k * 2 ^ k) (kept w c lt) ∙ sym (kept w p (omega (arith, pow_pos k)))
          ∙ same_residue w (pos p) z 0 1 (same_in (pos p +ℤ pos (0 * 2 ^ w)) (z +ℤ pos (1 * 2 ^ w)) (omega (arith, sum_is_lem, neg_is)))

-- ---- the rules over a width

module _ (w k : ℕ) (fits : w ≤ 2 ^ w) (one : 1 ≤ k) (l : k < w - 1) (x : ℤ) (r : IsWithin true w x) where
  some : 0 < w
  some = omega arith

  shifted_by : (y : ℤ) (j : ℕ) → IsWithin true w y → j < w → signed_shift_of w (residue w y % 2 ^ w) (j % 2 ^ w) ≡ residue w (int_shr y j)
  shifted_by y j t h = ap (λ n. signed_shift_of w (residue w y % 2 ^ w) (n % 2 ^ w)) (sym (kept w j (omega arith))) ∙ shifted_signed w fits y j h some t

  -- the lowest k copies of the sign bit
  abbrev bias_of : ℕ → ℕ
  bias_of v = right_shift_of w (v % 2 ^ w) ((w - k) % 2 ^ w)

  long : bias_of (signed_shift_of w (residue w x % 2 ^ w) ((w - 1) % 2 ^ w)) ≡ bias x (2 ^ k)
  long = ap bias_of (shifted_by x (w - 1) r (omega arith)) ∙ right_shift_small w (residue w (int_shr x (w - 1))) (w - k) fits (residue_below w (int_shr x (w - 1))) (omega arith) ∙ by x r
    where
      by : (x : ℤ) → IsWithin true w x → residue w (int_shr x (w - 1)) / 2 ^ (w - k) ≡ bias x (2 ^ k)
      by (pos a) r =
          let none : a / 2 ^ (w - 1) ≡ 0 = div-eq_of_lt (omega (arith, ints, r.below)) in
          ap (λ n. n % 2 ^ w / 2 ^ (w - k)) none ∙ ap (λ n. n / 2 ^ (w - k)) (kept w 0 (pow_pos w)) ∙ div-eq_of_lt (pow_pos (w - k))
      by (negsuc a) r =
          let none : a / 2 ^ (w - 1) ≡ 0 = div-eq_of_lt (omega (arith, ints, r.above)) in
          let ones : 2 ^ w - 1 - 0 % 2 ^ w ≡ 2 ^ w - 1 = ap (λ n. 2 ^ w - 1 - n) (kept w 0 (pow_pos w)) ∙ omega arith in
          let width : w - (w - k) ≡ k = omega arith in
          ap (λ n. (2 ^ w - 1 - n % 2 ^ w) / 2 ^ (w - k)) none ∙ ap (λ n. n / 2 ^ (w - k)) ones ∙ ones_shr w (w - k) (omega arith) ∙ ap (λ n. 2 ^ n - 1) width

  short : k ≡ 1 → bias_of (residue w x) ≡ bias x (2 ^ k)
  short e = right_shift_small w (residue w x) (w - k) fits (residue_below w x) (omega arith) ∙ by x r
    where
      half : 2 ^ (w - k) ≡ 2 ^ (w - 1)
      half = ap (λ n. 2 ^ (w - n)) e

      by : (x : ℤ) → IsWithin true w x → residue w x / 2 ^ (w - k) ≡ bias x (2 ^ k)
      by (pos a) r =
          let t = half_twice w some in
          ap (λ n. n / 2 ^ (w - k)) (kept w a (omega (arith, ints, r.below))) ∙ div-eq_of_lt (omega (arith, ints, r.below, half))
      by (negsuc a) r =
          let t = half_twice w some in
          let lt : a < 2 ^ (w - 1) = omega (arith, ints, r.above) in
          let two : 2 ^ k ≡ 2 = ap (λ n. 2 ^ n) e in
          let once : (2 ^ w - 1 - a) / 2 ^ (w - 1) ≡ 1 = div-eq_of_lt-le (2 ^ (w - 1)) (omega arith) (omega arith) in
          ap (λ n. (2 ^ w - 1 - n) / 2 ^ (w - k)) (kept w a (omega arith)) ∙ ap (λ n. (2 ^ w - 1 - a) / n) half ∙ once ∙ omega arith

  bias_is : bias_of (cond (eqb k 1) (residue w x) (signed_shift_of w (residue w x % 2 ^ w) ((w - 1) % 2 ^ w))) ≡ bias x (2 ^ k)
  bias_is = cond_both (eqb k 1) (residue w x) (signed_shift_of w (residue w x % 2 ^ w) ((w - 1) % 2 ^ w)) (λ v. bias_of v ≡ bias x (2 ^ k)) (λ e. short (eqb-true k 1 e)) (λ e. long)

  abbrev biased : ℕ
  biased = sum_of w (residue w x % 2 ^ w) (bias_of (cond (eqb k 1) (residue w x) (signed_shift_of w (residue w x % 2 ^ w) ((w - 1) % 2 ^ w))) % 2 ^ w)

  bias_below : (z : ℤ) → bias z (2 ^ k) < 2 ^ w
  bias_below (pos a) = pow_pos w
  bias_below (negsuc a) = let le : 2 ^ k ≤ 2 ^ w = pow_mono {i = k} {j = w} (omega arith) in omega (arith, pow_pos w)

  biased_is : biased ≡ residue w (x +ℤ pos (bias x (2 ^ k)))
  biased_is =
      ap (λ b. sum_of w (residue w x % 2 ^ w) (b % 2 ^ w)) (bias_is ∙ sym (kept w (bias x (2 ^ k)) (bias_below x)))
      ∙ summed w x (pos (bias x (2 ^ k)))

  divisor_below : 2 ^ k < 2 ^ (w - 1)
  divisor_below = pow_below k (w - 1) l

  divisor_within : IsWithin true w (pos (2 ^ k))
  divisor_within = let lt = divisor_below in record { above = omega (arith, ints); below = omega (arith, ints) }

  divisor_some : ¬ (pos (2 ^ k) ≡ pos 0)
  divisor_some e = omega (arith, ints, pow_pos k)

  divisor_kept : residue w (pos (2 ^ k)) ≡ 2 ^ k
  divisor_kept = kept w (2 ^ k) (let t = half_twice w some in omega (arith, divisor_below))

  quotient : signed_shift_of w (biased % 2 ^ w) (k % 2 ^ w) ≡ signed_quotient_of w (residue w x % 2 ^ w) (2 ^ k % 2 ^ w)
  quotient =
      let y = x +ℤ pos (bias x (2 ^ k)) in
      ap (λ n. signed_shift_of w (n % 2 ^ w) (k % 2 ^ w)) biased_is ∙ shifted_by y k (biased_within w k x some (omega arith) r) (omega arith) ∙ ap (residue w) (rounded x k)
      ∙ sym (divided_signed w some x (pos (2 ^ k)) r divisor_within divisor_some) ∙ ap (λ n. signed_quotient_of w (residue w x % 2 ^ w) (n % 2 ^ w)) divisor_kept

  remainder : difference_of w (residue w x % 2 ^ w) (bit_and (biased % 2 ^ w) ((2 ^ w - 2 ^ k) % 2 ^ w) % 2 ^ w) ≡ signed_remainder_of w (residue w x % 2 ^ w) (2 ^ k % 2 ^ w)
  remainder =
      let y = x +ℤ pos (bias x (2 ^ k)) in
      let product = int_shr y k *ℤ pos (2 ^ k) in
      let masked : bit_and (biased % 2 ^ w) ((2 ^ w - 2 ^ k) % 2 ^ w) ≡ residue w product = ap (λ n. bit_and (n % 2 ^ w) ((2 ^ w - 2 ^ k) % 2 ^ w)) biased_is ∙ masked_residue w k (omega arith) y some (biased_within w k x some (omega arith) r) in
      ap (λ n. difference_of w (residue w x % 2 ^ w) (n % 2 ^ w)) masked ∙ subtracted w x product
      ∙ ap (λ q. residue w (x -ℤ (q *ℤ pos (2 ^ k)))) (rounded x k) ∙ ap (residue w) (remainder_is x (pos (2 ^ k)))
      ∙ sym (rest_signed w some x (pos (2 ^ k)) r divisor_within divisor_some) ∙ ap (λ n. signed_remainder_of w (residue w x % 2 ^ w) (n % 2 ^ w)) divisor_kept

pub divs32 : DividesByShift 32 biased32 Shrs32 Divs32
unfolding op2_result op2_on
divs32 n k ln one l =
    let P : ℕ → Type 0 = λ n. op2_result Shrs32 (biased32 n k) k ≡ op2_result Divs32 n (2 ^ k) in
    subst P (residue_signed 32 n (lit< tt) ln) (quotient 32 k (lit≤ tt) one l (signed_number 32 n) (signed_within 32 n (lit< tt) ln))

pub divs64 : DividesByShift 64 biased64 Shrs64 Divs64
unfolding op2_result op2_on
divs64 n k ln one l =
    let P : ℕ → Type 0 = λ n. op2_result Shrs64 (biased64 n k) k ≡ op2_result Divs64 n (2 ^ k) in
    subst P (residue_signed 64 n (lit< tt) ln) (quotient 64 k (lit≤ tt) one l (signed_number 64 n) (signed_within 64 n (lit< tt) ln))

pub rems32 : LeavesByMask 32 biased32 Sub32 And32 Rems32
unfolding op2_result op2_on
rems32 n k ln one l =
    let P : ℕ → Type 0 = λ n. op2_result Sub32 n (op2_result And32 (biased32 n k) (2 ^ 32 - 2 ^ k)) ≡ op2_result Rems32 n (2 ^ k) in
    subst P (residue_signed 32 n (lit< tt) ln) (remainder 32 k (lit≤ tt) one l (signed_number 32 n) (signed_within 32 n (lit< tt) ln))

pub rems64 : LeavesByMask 64 biased64 Sub64 And64 Rems64
unfolding op2_result op2_on
rems64 n k ln one l =
    let P : ℕ → Type 0 = λ n. op2_result Sub64 n (op2_result And64 (biased64 n k) (2 ^ 64 - 2 ^ k)) ≡ op2_result Rems64 n (2 ^ k) in
    subst P (residue_signed 64 n (lit< tt) ln) (remainder 64 k (lit≤ tt) one l (signed_number 64 n) (signed_within 64 n (lit< tt) ln))
