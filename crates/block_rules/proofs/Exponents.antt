-- The power of two that a divisor is.
use Rattle.std.proofs.Common.{◌≡◌, ℕ, zero, suc, ◌-◌, ◌^◌, ◌<◌, ◌≤◌, Some, None, eqb, sym, ◌∙◌, ap, subst, inl, inr, arith}
use Rattle.std.specs.Prelude.{nat_lt, ◌&&◌}
use Rattle.std.specs.Int.{trailing_zeros, w64, bit_at, IsPowerOfTwo}
use Rattle.std.proofs.lemmas.Bool.{and_parts, and_from, cases_lt, cond-true}
use Rattle.std.proofs.lemmas.Nat.Bits.{bit_at-trailing_zeros, bit_at-pow_other}
use Rattle.std.proofs.lemmas.Option.{cond_some, none-some}
use Rattle.std.proofs.Math.Pow.{pow_mono}
use borrow.Author.Tests.{eqb-true, ltb-true, lt-ltb, eq-eqb}
use Rattle.block_rules.specs.declared.kind.Word.{Word}
use Rattle.block_rules.specs.declared.kind.Word.TheVariants.{Word32, Word64}
use Rattle.block_rules.specs.Kinds.{bits}
use Rattle.block_rules.specs.TwoRules.{exponent_of}

pub less_places : (w k : ℕ) → 2 ^ k < 2 ^ w → k < w
less_places w k h = elim (cases_lt k w) [
  | inl lt ↦ lt
  | inr ge ↦ let le : 2 ^ w ≤ 2 ^ k = pow_mono {i = w} {j = k} ge in absurd (omega arith)
]

-- y is 2 ^ k
pub record IsExponent (y k : ℕ) : Type 0 where
  pub is : y ≡ 2 ^ k
  pub some : 0 < k

pub exponent_law : (y k : ℕ) → exponent_of y ≡ Some k → IsExponent y k
unfolding exponent_of
exponent_law y k e =
    let j = trailing_zeros w64 y in
    let p = cond_some ((nat_lt 0 j && nat_lt j 64) && eqb y (2 ^ j)) j k e in
    let q = and_parts (nat_lt 0 j && nat_lt j 64) (eqb y (2 ^ j)) p.0 in
    let r = and_parts (nat_lt 0 j) (nat_lt j 64) q.0 in
    record {
      is = eqb-true y (2 ^ j) q.1 ∙ ap (λ (i : ℕ). 2 ^ i) p.1;
      some = subst (λ (i : ℕ). 0 < i) p.1 (ltb-true 0 j r.0);
    }

pub half_below : (w : Word) (d : ℕ) → d < 2 ^ (bits w - 1) → d < 2 ^ bits w
half_below Word32 d h = omega arith
half_below Word64 d h = omega arith

pub places_below : (w : Word) (y k : ℕ) → exponent_of y ≡ Some k → y < 2 ^ (bits w - 1) → k < bits w - 1
places_below w y k e h = less_places (bits w - 1) k (subst (λ (z : ℕ). z < 2 ^ (bits w - 1)) (exponent_law y k e).is h)

pub places_are_few : (w : Word) (y k : ℕ) → exponent_of y ≡ Some k → y < 2 ^ (bits w - 1) → k < bits w
places_are_few w y k e h = omega (arith, places_below w y k e h)

positive : (j : ℕ) → 1 < 2 ^ j → 0 < j
positive zero h = absurd (omega arith)
positive (suc j) h = omega arith

word_below : (w : Word) (d : ℕ) → d < 2 ^ (bits w - 1) → d < 2 ^ 64
word_below Word32 d h = omega arith
word_below Word64 d h = omega arith

-- a number without exponent is no power of two
pub no_power : (w : Word) (d : ℕ) → 1 < d → d < 2 ^ (bits w - 1) → exponent_of d ≡ None → ¬ IsPowerOfTwo d
unfolding exponent_of
no_power w d some half e p =
    let k = p.0 in
    let j = trailing_zeros w64 d in
    let t = bit_at-trailing_zeros w64 d (omega arith) (word_below w d half) in
    let same : j ≡ k → ⊥ = λ q.
    let is : d ≡ 2 ^ j = p.1 ∙ ap (λ (i : ℕ). 2 ^ i) (sym q) in
    let low : 0 < j = positive j (subst (λ (z : ℕ). 1 < z) is some) in
    let both = and_from (nat_lt 0 j) (nat_lt j 64) (lt-ltb 0 j low) (lt-ltb j 64 t.0) in
    let yes = and_from (nat_lt 0 j && nat_lt j 64) (eqb d (2 ^ j)) both (eq-eqb d (2 ^ j) is) in
    none-some j (sym e ∙ cond-true ((nat_lt 0 j && nat_lt j 64) && eqb d (2 ^ j)) (Some j) None yes) in
    let no : bit_at (2 ^ k) j ≡ 0 = bit_at-pow_other k j same in
    omega (arith, t.1, ap (λ (z : ℕ). bit_at z j) p.1, no)
