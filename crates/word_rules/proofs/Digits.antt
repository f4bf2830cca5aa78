-- Binary digits of numbers, and powers of two.
use Rattle.std.proofs.Common.{◌≡◌, ℕ, zero, suc, ◌+◌, ◌-◌, ◌*◌, ◌/◌, ◌%◌, ◌^◌, ◌<◌, ◌≤◌, refl, sym, ◌∙◌, ap, subst, arith, eq-eqb}
use Rattle.std.specs.Prelude.{count_ones}
use Rattle.std.specs.Int.{IsPowerOfTwo}
use Rattle.std.specs.Int.Count.{count_leading_zeros, ones-ones}
use Rattle.std.proofs.lemmas.Nat.{pow_pos, pow-add, leading_length, ones_cat, ones_le_self, zero_from_ones}
use Rattle.std.proofs.Math.Nat.{pow-suc}
use borrow.Author.Tests.{eqb-true}
use Rattle.word_rules.specs.Magic.{HasDigits}
use Rattle.word_rules.specs.Existence.{DigitsAreCounted, PowersAreTold}

pub digits_are_counted : DigitsAreCounted
digits_are_counted k a h =
    let l = leading_length k a h in
    let z = count_leading_zeros k a in
    let e : k - z ≡ l.0 = omega (arith, l.1) in
    subst (HasDigits a) (sym e) (record { below = l.2; least = l.3 })

-- the lowest digit apart
halves : (d : ℕ) → d ≡ d / 2 * 2 + d % 2
halves d = omega arith

twice : (c k : ℕ) → c ≡ 2 ^ k → c * 2 ≡ 2 ^ (k + 1)
twice c k e = ap (λ n. n * 2) e ∙ sym (pow-add 2 k 1)

none_set : count_ones 0 ≡ 0
none_set = omega (arith, ones_le_self 0)

one_set : count_ones 1 ≡ 1
one_set = ones-ones 1

some_set : (d : ℕ) → count_ones d ≡ 1 → 0 < d
some_set zero e = absurd (omega (arith, none_set))
some_set (suc n) e = omega arith

doubled : (d : ℕ) → d ≡ d / 2 * 2 → IsPowerOfTwo (d / 2) → IsPowerOfTwo d
doubled d e p = (p.0 + 1, e ∙ twice (d / 2) p.0 p.1)

-- one step of the search for the power, by the lowest digit
power_from_half : (d r : ℕ) → d % 2 ≡ r → count_ones d ≡ 1 → (count_ones (d / 2) ≡ 1 → IsPowerOfTwo (d / 2)) → IsPowerOfTwo d
power_from_half d r q e f = by r q
  where
    parts : count_ones (d / 2) + count_ones (d % 2) ≡ 1
    parts = sym (ones_cat 1 (d / 2) (d % 2) (omega arith)) ∙ ap count_ones (sym (halves d)) ∙ e

    by : (r : ℕ) → d % 2 ≡ r → IsPowerOfTwo d
    by zero q =
        let none : count_ones (d % 2) ≡ 0 = ap count_ones q ∙ none_set in
        doubled d (omega arith) (f (omega (arith, parts)))
    by (suc r) q =
        let odd : d % 2 ≡ 1 = omega arith in
        let one : count_ones (d % 2) ≡ 1 = ap count_ones odd ∙ one_set in
        let none : d / 2 ≡ 0 = zero_from_ones (d / 2) (omega (arith, parts)) in
        (0, omega arith)

power_from_one : (f d : ℕ) → d ≤ f → count_ones d ≡ 1 → IsPowerOfTwo d
power_from_one zero d le e = absurd (let some = some_set d e in omega arith)
power_from_one (suc f) d le e = power_from_half d (d % 2) refl e (power_from_one f (d / 2) (let some = some_set d e in omega arith))

one_from_power : (k : ℕ) → count_ones (2 ^ k) ≡ 1
one_from_power k =
    let e : 2 ^ k ≡ 1 * 2 ^ k + 0 = omega arith in
    let sum : count_ones (1 * 2 ^ k + 0) ≡ count_ones 1 + count_ones 0 = ones_cat k 1 0 (pow_pos k) in
    ap count_ones e ∙ sum ∙ omega (arith, none_set, one_set)

pub powers_are_told : PowersAreTold
powers_are_told d = (λ e. power_from_one d d (omega arith) (eqb-true (count_ones d) 1 e), λ p. eq-eqb (count_ones d) 1 (ap count_ones p.1 ∙ one_from_power p.0))

-- ---- a divisor of a power of two is one

one_step : (s d q r v : ℕ) → d % 2 ≡ r → q % 2 ≡ v → q * d ≡ 2 ^ s * 2 → (q * (d / 2) ≡ 2 ^ s → IsPowerOfTwo (d / 2)) → (q / 2 * d ≡ 2 ^ s → IsPowerOfTwo d) → IsPowerOfTwo d
one_step s d q zero v f g e h k =
    let even : d ≡ d / 2 * 2 = omega arith in
    let product : q * (d / 2 * 2) ≡ 2 ^ s * 2 = ap (λ n. q * n) (sym even) ∙ e in
    doubled d even (h (omega arith))
one_step s d q (suc r) zero f g e h k =
    let even : q ≡ q / 2 * 2 = omega arith in
    let product : q / 2 * 2 * d ≡ 2 ^ s * 2 = ap (λ n. n * d) (sym even) ∙ e in
    k (omega arith)
one_step s d q (suc r) (suc v) f g e h k =
    let one : d ≡ d / 2 * 2 + 1 = omega arith in
    let other : q ≡ q / 2 * 2 + 1 = omega arith in
    let product : (q / 2 * 2 + 1) * (d / 2 * 2 + 1) ≡ 2 ^ s * 2 = (λ i. sym other i * sym one i) ∙ e in
    absurd (omega arith)

pub power_from_divisor : (s d q : ℕ) → q * d ≡ 2 ^ s → IsPowerOfTwo d
power_from_divisor zero d zero e = absurd (omega arith)
power_from_divisor zero zero (suc q) e = absurd (omega arith)
power_from_divisor zero (suc zero) (suc q) e = (0, refl)
power_from_divisor zero (suc (suc d)) (suc q) e = absurd (omega arith)
power_from_divisor (suc s) d q e = one_step s d q (d % 2) (q % 2) refl refl (e ∙ pow-suc 2 s) (power_from_divisor s (d / 2) q) (power_from_divisor s d (q / 2))
