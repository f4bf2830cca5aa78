-- Quotients by products and shifts, on natural and on whole numbers.
use Rattle.std.proofs.Common.{◌≡◌, ℕ, suc, ◌+◌, ◌-◌, ◌*◌, ◌/◌, ◌^◌, ◌<◌, ◌≤◌, ◌∙◌, ap, arith}
use Rattle.std.specs.Prelude.{pos, negsuc, ◌-ℤ◌, ◌*ℤ◌, neg_ℤ, int_div}
use Rattle.std.specs.Int.{int_shr}
use Rattle.std.proofs.lemmas.Int.{ints}
use Rattle.std.proofs.Math.Nat.{le_of_mul-le-mul_right, lt_of_mul-lt-mul_right, mul-le-mul_right, div-eq_of_lt-le, div-mul-le_self}
use borrow.Author.Differences.{same_in, sum_is_lem, neg_is}
use Rattle.word_rules.specs.Numbers.{ProductsAreQuotients, ProductsAreBelowQuotients}

-- b stands for 2 ^ s, and e for how far m * d is above it
module _ (n d b e m : ℕ) (some : 0 < d) (eq : m * d ≡ b + e) (close : e * n < b) where
  scaled : m * n * d ≡ n * b + n * e
  scaled = let h : m * d * n ≡ (b + e) * n = ap (λ k. k * n) eq in omega arith

  least : n / d * b ≤ m * n
  least =
      let h : n / d * d * b ≤ n * b = mul-le-mul_right b (div-mul-le_self n d) in
      let k : n / d * b * d ≤ m * n * d = omega (arith, scaled) in
      le_of_mul-le-mul_right k some

  -- with a number more in the product, where m * d is not b
  pub least_more : 0 < e → 0 < n → n / d * b < m * n
  least_more p q =
      let h : n / d * d * b ≤ n * b = mul-le-mul_right b (div-mul-le_self n d) in
      let t : 1 * e ≤ n * e = mul-le-mul_right e q in
      let k : n / d * b * d < m * n * d = omega (arith, scaled) in
      lt_of_mul-lt-mul_right d k

  most : m * n < (n / d + 1) * b
  most =
      let up : n + 1 ≤ (n / d + 1) * d = omega arith in
      let k : (n + 1) * b ≤ (n / d + 1) * d * b = mul-le-mul_right b up in
      let l : m * n * d < (n / d + 1) * b * d = omega (arith, scaled) in
      lt_of_mul-lt-mul_right d l

  pub quotient : m * n / b ≡ n / d
  quotient = div-eq_of_lt-le b least most

  pub quotient_below : 0 < e → 0 < n → (m * n - 1) / b ≡ n / d
  quotient_below p q =
      let l = least_more p q in
      div-eq_of_lt-le b (omega arith) (let k = most in omega arith)

pub products_are_quotients : ProductsAreQuotients
products_are_quotients n d s m some h =
    let eq : m * d ≡ 2 ^ s + (m * d - 2 ^ s) = omega (arith, h.above) in
    quotient n d (2 ^ s) (m * d - 2 ^ s) m some eq h.close

pub products_are_below_quotients : ProductsAreBelowQuotients
products_are_below_quotients (pos n) d s m some p h k = absurd (omega (arith, ints))
products_are_below_quotients (negsuc a) d s m some p h k =
    let eq : m * d ≡ 2 ^ s + (m * d - 2 ^ s) = omega arith in
    let b = 2 ^ s in
    let e = m * d - 2 ^ s in
    let q : (m * suc a - 1) / b ≡ suc a / d = quotient_below (suc a) d b e m some eq k.close (omega arith) (omega arith) in
    let more : suc a / d * b < m * suc a = least_more (suc a) d b e m some eq k.close (omega arith) (omega arith) in
    let product : negsuc a *ℤ pos m ≡ negsuc (m * suc a - 1) = same_in (neg_ℤ (pos (suc a * m))) (negsuc (m * suc a - 1)) (omega (arith, neg_is (pos (suc a * m)))) in
    ap (λ z. int_shr z s) product ∙ ap negsuc q ∙ same_in (negsuc (suc a / d)) (int_div (negsuc a) (pos d) -ℤ pos 1) (omega (arith, sum_is_lem, neg_is))
