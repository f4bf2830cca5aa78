-- Magic numbers of each divisor.
use Rattle.std.proofs.Common.{◌≡◌, ℕ, ◌+◌, ◌-◌, ◌*◌, ◌^◌, ◌<◌, ◌≤◌, ap, arith}
use Rattle.std.proofs.lemmas.Grind.{div_ceil_times}
use Rattle.std.proofs.lemmas.Nat.{pow_pos, pow-add}
use Rattle.std.proofs.Math.Nat.{le_of_mul-le-mul_right, lt_of_mul-lt-mul_right, mul-le-mul_left, mul-lt-mul_of_pos_right, lt_of_not-le, div-le_self}
use Rattle.std.proofs.Math.Pow.{pow_mono}
use Rattle.word_rules.specs.Magic.{HasDigits, reciprocal}
use Rattle.word_rules.specs.Existence.{ReciprocalsAreClose, CloseReciprocalsAreMagic, ReciprocalsFitWords, LongMagicExists, SignedMagicExists, SignedFactorsFit, FactorsAreAbove}
use Rattle.word_rules.proofs.Digits.{power_from_divisor}

pub reciprocals_are_close : ReciprocalsAreClose
reciprocals_are_close d s some = div_ceil_times (2 ^ s) d some

pub close_reciprocals_are_magic : CloseReciprocalsAreMagic
close_reciprocals_are_magic d s top some h = record { above = (reciprocals_are_close d s some).0; close = h }

pub reciprocals_fit_words : ReciprocalsFitWords
reciprocals_fit_words d s some h =
    let le : 2 ^ s ≤ 2 ^ 63 = pow_mono {i = s} {j = 63} (omega arith) in
    omega (arith, div-le_self (2 ^ s) d)

-- with t digits in d - 1, d is at most 2 ^ t and more than half of it
module _ (d t : ℕ) (some : 0 < d) (digits : HasDigits (d - 1) t) where
  power_above : d ≤ 2 ^ t
  power_above = omega (arith, digits.below)

  power_close : 2 ^ t + 1 ≤ 2 * d
  power_close = omega (arith, digits.least)

  -- d up to 2 ^ k has no more digits
  digits_below : (k : ℕ) → d ≤ 2 ^ k → t < k + 1
  digits_below k le =
      let two : 2 ^ (k + 1) ≡ 2 ^ k * 2 = pow-add 2 k 1 in
      lt_of_not-le (λ h. let m : 2 ^ (k + 1) ≤ 2 ^ t = pow_mono {i = k + 1} {j = t} h in omega (arith, power_close))

  -- the reciprocal for an amount of up to i + t has no more than i + 1 bits
  reciprocal_below : (i s : ℕ) → s ≤ i + t → d ≤ 2 ^ i → reciprocal d s < 2 ^ (i + 1)
  reciprocal_below i s at le =
      let close = reciprocals_are_close d s some in
      let sum : 2 ^ (i + t) ≡ 2 ^ i * 2 ^ t = pow-add 2 i t in
      let power : 2 ^ s ≤ 2 ^ (i + t) = pow_mono {i = s} {j = i + t} at in
      let two : 2 ^ (i + 1) ≡ 2 ^ i * 2 = pow-add 2 i 1 in
      let more : 2 ^ i * (2 ^ t + 1) ≤ 2 ^ i * (2 * d) = mul-le-mul_left (2 ^ i) power_close in
      rw two (lt_of_mul-lt-mul_right d (omega (arith, close.1)))

  -- for the amount i + t it has more than i
  reciprocal_above : (i : ℕ) → 2 ^ i ≤ reciprocal d (i + t)
  reciprocal_above i =
      let close = reciprocals_are_close d (i + t) some in
      let sum : 2 ^ (i + t) ≡ 2 ^ i * 2 ^ t = pow-add 2 i t in
      let more : 2 ^ i * d ≤ 2 ^ i * 2 ^ t = mul-le-mul_left (2 ^ i) power_above in
      le_of_mul-le-mul_right (omega (arith, close.0)) some

  -- and is close for numbers up to 2 ^ i
  reciprocal_close : (i top : ℕ) → top ≤ 2 ^ i → (reciprocal d (i + t) * d - 2 ^ (i + t)) * top < 2 ^ (i + t)
  reciprocal_close i top le =
      let close = reciprocals_are_close d (i + t) some in
      let over = reciprocal d (i + t) * d - 2 ^ (i + t) in
      let above : over < 2 ^ t = omega (arith, power_above, close.0, close.1) in
      let small : over * 2 ^ i < 2 ^ t * 2 ^ i = mul-lt-mul_of_pos_right above (pow_pos i) in
      let less : over * top ≤ over * 2 ^ i = mul-le-mul_left over le in
      let sum : 2 ^ (i + t) ≡ 2 ^ i * 2 ^ t = pow-add 2 i t in
      omega arith

pub long_magic_exists : LongMagicExists
long_magic_exists d t top some ld digits lt = (
  record { above = (reciprocals_are_close d (32 + t) some).0; close = reciprocal_close d t some digits 32 top (omega arith) },
  reciprocal_above d t some digits 32,
  reciprocal_below d t some digits 32 (32 + t) (omega arith) (omega arith),
  let k = digits_below d t some digits 32 (omega arith) in omega arith,
  λ le. digits_below d t some digits 31 le,
)

pub factors_are_above : FactorsAreAbove
factors_are_above d s some apart =
    let close = reciprocals_are_close d s some in
    let ne : ¬ (reciprocal d s * d ≡ 2 ^ s) = λ e. apart (power_from_divisor s d (reciprocal d s) e) in
    omega (arith, close.0)

pub signed_factors_fit : SignedFactorsFit
signed_factors_fit d t s some ld digits le = reciprocal_below d t some digits 31 s le (omega arith)

pub signed_magic_exists : SignedMagicExists
signed_magic_exists d t more ld apart digits =
    let some : 0 < d = omega arith in
    let few = digits_below d t some digits 31 (omega arith) in
    let one : ¬ (t ≡ 0) = λ e. let k : 2 ^ t ≡ 1 = ap (λ n. 2 ^ n) e in omega (arith, digits.below) in
    (record { above = factors_are_above d (31 + t) some apart; close = reciprocal_close d t some digits 31 (2 ^ 31) (omega arith) }, omega arith, omega arith)
