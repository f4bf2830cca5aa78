-- The search for the least amount of a shift.
use Rattle.std.proofs.Common.{◌≡◌, ℕ, suc, ◌+◌, ◌-◌, ◌*◌, ◌^◌, ◌<◌, ◌≤◌, Bool, true, false, Some, None, refl, subst, arith}
use Rattle.std.specs.List.{find, range_with_len}
use Rattle.std.proofs.lemmas.Bool.{cond-true, cond-false}
use Rattle.std.proofs.Math.Pow.{pow_mono}
use Rattle.word_rules.specs.Magic.{reciprocal, binary_digits}
use Rattle.word_rules.proofs.Digits.{digits_are_counted}
use Rattle.word_rules.proofs.Reciprocals.{reciprocals_are_close, long_magic_exists}

pub product_fits : (d s : ℕ) → 0 < d → d < 2 ^ 63 → s < 64 → reciprocal d s * d < 2 ^ 64
product_fits d s some half h =
    let le : 2 ^ s ≤ 2 ^ 63 = pow_mono {i = s} {j = 63} (omega arith) in
    let c = reciprocals_are_close d s some in
    omega (arith, c.1)

pub product_reaches : (d s : ℕ) → 0 < d → 2 ^ s ≤ reciprocal d s * d
product_reaches d s some = (reciprocals_are_close d s some).0

pub found_here : (p : ℕ → Bool) (s : ℕ) → s < 64 → p s ≡ true → find p (range_with_len s (64 - s)) ≡ Some s
found_here p s h e =
    let k : suc (64 - (s + 1)) ≡ 64 - s = omega arith in
    subst (λ (j : ℕ). find p (range_with_len s j) ≡ Some s) k (cond-true (p s) (Some s) (find p (range_with_len (s + 1) (64 - (s + 1)))) e)

pub found_later : (p : ℕ → Bool) (s : ℕ) → s < 64 → p s ≡ false → find p (range_with_len s (64 - s)) ≡ find p (range_with_len (s + 1) (64 - (s + 1)))
found_later p s h e =
    let k : suc (64 - (s + 1)) ≡ 64 - s = omega arith in
    let later = find p (range_with_len (s + 1) (64 - (s + 1))) in
    subst (λ (j : ℕ). find p (range_with_len s j) ≡ later) k (cond-false (p s) (Some s) later e)

pub found_nowhere : (p : ℕ → Bool) (s : ℕ) → 64 ≤ s → find p (range_with_len s (64 - s)) ≡ None
found_nowhere p s h =
    let k : 0 ≡ 64 - s = omega arith in
    subst (λ (j : ℕ). find p (range_with_len s j) ≡ None) k refl

pub digits_are_few : (d : ℕ) → 1 < d → d < 2 ^ 31 → binary_digits (d - 1) < 32
digits_are_few d some half =
    let h = digits_are_counted 64 (d - 1) (omega arith) in
    (long_magic_exists d (binary_digits (d - 1)) 0 (omega arith) (omega arith) h (omega arith)).4 (omega arith)
