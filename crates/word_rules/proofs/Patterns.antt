-- Patterns of w bits and the numbers that they stand for, and the rules over a width on operands whose exact result is a pattern.
use Rattle.std.proofs.Common.{◌≡◌, ℕ, ◌+◌, ◌-◌, ◌*◌, ◌/◌, ◌%◌, ◌^◌, ◌<◌, ◌≤◌, Bool, true, false, eqb, ltb, refl, sym, ◌∙◌, ap, subst, arith}
use Rattle.std.specs.Prelude.{ℤ, pos, negsuc, ◌-ℤ◌}
use Rattle.std.proofs.lemmas.Bool.{cond_above, cond_below, cond-false, ltb-true, ltb-false, ne_eqb}
use Rattle.std.proofs.lemmas.Int.{ints}
use Rattle.std.proofs.lemmas.Nat.{pow_pos, mul-mod}
use Rattle.std.proofs.Math.Nat.{mod-eq_of_lt, add-mod}
use borrow.Author.Differences.{same_in, sum_is_lem, neg_is}
use Rattle.el_base.specs.Numbers.{residue, signed_number, IsWithin}
use Rattle.word_ops.specs.Operations.{sum_of, product_of, right_shift_of, quotient_of}
use Rattle.word_ops.proofs.Words.{half_twice}

-- ---- the number of a pattern

module _ (w n : ℕ) (some : 0 < w) (lt : n < 2 ^ w) where
  pub signed_low : n < 2 ^ (w - 1) → signed_number w n ≡ pos n
  signed_low h = sym (cond_below n (2 ^ (w - 1)) (pos n) (pos n -ℤ pos (2 ^ w)) h)

  pub signed_high : 2 ^ (w - 1) ≤ n → signed_number w n ≡ negsuc (2 ^ w - 1 - n)
  signed_high h = sym (cond_above n (2 ^ (w - 1)) (pos n) (pos n -ℤ pos (2 ^ w)) (negsuc (2 ^ w - 1 - n)) h (same_in (negsuc (2 ^ w - 1 - n)) (pos n -ℤ pos (2 ^ w)) (omega (arith, sum_is_lem, neg_is))))

  pub residue_natural : residue w (pos n) ≡ n
  residue_natural = mod-eq_of_lt lt

  pub residue_high : 2 ^ (w - 1) ≤ n → residue w (negsuc (2 ^ w - 1 - n)) ≡ n
  residue_high h = let e : (2 ^ w - 1 - n) % 2 ^ w ≡ 2 ^ w - 1 - n = mod-eq_of_lt (omega (arith, pow_pos w)) in omega arith

  -- what holds of the numbers of both kinds holds of the number of n
  pub by_sign : (P : ℤ → Type 0) → (n < 2 ^ (w - 1) → P (pos n)) → (2 ^ (w - 1) ≤ n → P (negsuc (2 ^ w - 1 - n))) → P (signed_number w n)
  by_sign P f g = cases (ltb n (2 ^ (w - 1))) refl
    where
      cases : (b : Bool) → ltb n (2 ^ (w - 1)) ≡ b → P (signed_number w n)
      cases true e = let h = ltb-true n (2 ^ (w - 1)) e in subst P (sym (signed_low h)) (f h)
      cases false e = let h = ltb-false n (2 ^ (w - 1)) e in subst P (sym (signed_high h)) (g h)

  pub residue_signed : residue w (signed_number w n) ≡ n
  residue_signed = by_sign (λ z. residue w z ≡ n) (λ h. residue_natural) residue_high

  pub signed_within : IsWithin true w (signed_number w n)
  signed_within =
      let t = half_twice w some in
      by_sign (IsWithin true w) (λ h. record { above = omega (arith, ints); below = omega (arith, ints) }) (λ h. record { above = omega (arith, ints); below = omega (arith, ints) })

  pub unsigned_within : IsWithin false w (pos n)
  unsigned_within = record { above = omega (arith, ints); below = omega (arith, ints) }

-- ---- results that are patterns themselves

module _ (w : ℕ) where
  pub kept : (a : ℕ) → a < 2 ^ w → a % 2 ^ w ≡ a
  kept a h = mod-eq_of_lt h

  pub sum_small : (a b : ℕ) → a + b < 2 ^ w → sum_of w (a % 2 ^ w) (b % 2 ^ w) ≡ a + b
  sum_small a b h = sym (add-mod a b (2 ^ w)) ∙ kept (a + b) h

  pub product_small : (a b : ℕ) → a * b < 2 ^ w → product_of w (a % 2 ^ w) (b % 2 ^ w) ≡ a * b
  product_small a b h = sym (mul-mod a b (2 ^ w)) ∙ kept (a * b) h

  pub amount_small : (k : ℕ) → w ≤ 2 ^ w → k < w → k % 2 ^ w % w ≡ k
  amount_small k le h = ap (λ i. i % w) (kept k (omega arith)) ∙ mod-eq_of_lt h

  pub right_shift_small : (a k : ℕ) → w ≤ 2 ^ w → a < 2 ^ w → k < w → right_shift_of w (a % 2 ^ w) (k % 2 ^ w) ≡ a / 2 ^ k
  right_shift_small a k le h l = λ i. kept a h i / 2 ^ amount_small k le l i

  pub quotient_small : (a b : ℕ) → a < 2 ^ w → 0 < b → b < 2 ^ w → quotient_of (a % 2 ^ w) (b % 2 ^ w) ≡ a / b
  quotient_small a b h p l = (λ i. quotient_of (kept a h i) (kept b l i)) ∙ cond-false (eqb b 0) 0 (a / b) (ne_eqb b 0 (λ e. omega arith))
