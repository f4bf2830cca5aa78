-- Signed division of numbers without sign, and remainders from quotients.
use Rattle.std.proofs.Common.{◌≡◌, ℕ, ◌-◌, ◌/◌, ◌%◌, ◌^◌, ◌<◌, ◌≤◌, lit<, cond, eqb, refl, sym, ◌∙◌, ap, arith}
use Rattle.std.specs.Prelude.{ℤ, pos, ◌-ℤ◌, ◌*ℤ◌, int_div, int_rem}
use Rattle.std.proofs.lemmas.Int.{ints, quot-rem}
use Rattle.std.proofs.Math.Nat.{div-le_self, mod-le}
use borrow.Author.Differences.{same_in, same_out, sum_is_lem, neg_is}
use Rattle.el_base.specs.declared.operation.Op2.TheVariants.{Sub32, Sub64, Mul32, Mul64, Divu32, Divu64, Remu32, Remu64, Divs32, Divs64, Rems32, Rems64}
use Rattle.el_base.specs.Numbers.{residue, signed_number}
use Rattle.word_ops.specs.Operations.{op2_on, op2_result, quotient_of, remainder_of, signed_quotient_of, signed_remainder_of, difference_of, product_of}
use Rattle.word_ops.proofs.Exact.{divided_unsigned, rest_unsigned, divided_signed, rest_signed, subtracted, multiplied}
use Rattle.word_ops.proofs.Words.{half_twice}
use Rattle.word_rules.specs.Quotients.{SameWithoutSign, LeavesByQuotient}
use Rattle.word_rules.proofs.Patterns.{kept, signed_low, residue_natural, residue_signed, signed_within, unsigned_within}

-- ---- numbers that are not negative

module _ (w : ℕ) (some : 0 < w) (n d : ℕ) (ln : n < 2 ^ (w - 1)) (ld : d < 2 ^ (w - 1)) where
  below : (a : ℕ) → a < 2 ^ (w - 1) → a < 2 ^ w
  below a h = omega (arith, half_twice w some)

  read : (a : ℕ) → a < 2 ^ (w - 1) → signed_number w (a % 2 ^ w) ≡ pos a
  read a h = ap (signed_number w) (kept w a (below a h)) ∙ signed_low w a some (below a h) h

  taken : (f : ℤ → ℤ → ℤ) (g : ℕ → ℕ → ℕ) → f (pos n) (pos d) ≡ pos (g n d) → g n d ≤ n → residue w (f (signed_number w (n % 2 ^ w)) (signed_number w (d % 2 ^ w))) ≡ g (n % 2 ^ w) (d % 2 ^ w)
  taken f g e le =
      let small : g n d < 2 ^ w = omega (arith, below n ln) in
      (λ i. residue w (f (read n ln i) (read d ld i))) ∙ ap (residue w) e ∙ residue_natural w (g n d) some small
      ∙ (λ i. g (sym (kept w n (below n ln)) i) (sym (kept w d (below d ld)) i))

  same_quotient : signed_quotient_of w (n % 2 ^ w) (d % 2 ^ w) ≡ quotient_of (n % 2 ^ w) (d % 2 ^ w)
  same_quotient = ap (cond (eqb (d % 2 ^ w) 0) 0) (taken int_div (λ a b. a / b) refl (div-le_self n d))

  same_remainder : signed_remainder_of w (n % 2 ^ w) (d % 2 ^ w) ≡ remainder_of (n % 2 ^ w) (d % 2 ^ w)
  same_remainder = ap (cond (eqb (d % 2 ^ w) 0) 0) (taken int_rem (λ a b. a % b) refl (mod-le n d))

pub same_divs32 : SameWithoutSign 32 Divs32 Divu32
unfolding op2_result op2_on
same_divs32 = same_quotient 32 (lit< tt)

pub same_divs64 : SameWithoutSign 64 Divs64 Divu64
unfolding op2_result op2_on
same_divs64 = same_quotient 64 (lit< tt)

pub same_rems32 : SameWithoutSign 32 Rems32 Remu32
unfolding op2_result op2_on
same_rems32 = same_remainder 32 (lit< tt)

pub same_rems64 : SameWithoutSign 64 Rems64 Remu64
unfolding op2_result op2_on
same_rems64 = same_remainder 64 (lit< tt)

-- ---- remainders from quotients

-- x less the product is the remainder, and so it is of the patterns
pub remainder_is : (x y : ℤ) → x -ℤ (int_div x y *ℤ y) ≡ int_rem x y
remainder_is x y =
    let p = int_div x y *ℤ y in
    same_in (x -ℤ p) (int_rem x y) (omega (arith, sum_is_lem, neg_is, same_out, quot-rem x y))

left : (w : ℕ) (x y : ℤ) (q : ℕ) → q ≡ residue w (int_div x y) → difference_of w (residue w x % 2 ^ w) (product_of w (q % 2 ^ w) (residue w y % 2 ^ w) % 2 ^ w) ≡ residue w (int_rem x y)
left w x y q e =
    let p = int_div x y *ℤ y in
    let product : product_of w (q % 2 ^ w) (residue w y % 2 ^ w) ≡ residue w p = ap (λ k. product_of w (k % 2 ^ w) (residue w y % 2 ^ w)) e ∙ multiplied w (int_div x y) y in
    ap (λ k. difference_of w (residue w x % 2 ^ w) (k % 2 ^ w)) product ∙ subtracted w x p ∙ ap (residue w) (remainder_is x y)

module _ (w : ℕ) (some : 0 < w) (n d q : ℕ) (ln : n < 2 ^ w) (pd : 0 < d) (ld : d < 2 ^ w) where
  left_unsigned : q ≡ quotient_of (n % 2 ^ w) (d % 2 ^ w) → difference_of w (n % 2 ^ w) (product_of w (q % 2 ^ w) (d % 2 ^ w) % 2 ^ w) ≡ remainder_of (n % 2 ^ w) (d % 2 ^ w)
  left_unsigned e =
      let a = residue_natural w n some ln in
      let b = residue_natural w d some ld in
      let r = unsigned_within w n some ln in
      let t = unsigned_within w d some ld in
      let nonzero : ¬ (pos d ≡ pos 0) = λ z. omega (arith, ints) in
      let quotient : q ≡ residue w (int_div (pos n) (pos d)) = e ∙ (λ i. quotient_of (sym a i % 2 ^ w) (sym b i % 2 ^ w)) ∙ divided_unsigned w some (pos n) (pos d) r t nonzero in
      (λ i. difference_of w (sym a i % 2 ^ w) (product_of w (q % 2 ^ w) (sym b i % 2 ^ w) % 2 ^ w))
      ∙ left w (pos n) (pos d) q quotient ∙ sym (rest_unsigned w some (pos n) (pos d) r t nonzero) ∙ (λ i. remainder_of (a i % 2 ^ w) (b i % 2 ^ w))

  -- the number of a pattern other than 0 is not 0
  not_zero : ¬ (signed_number w d ≡ pos 0)
  not_zero e = let z : d ≡ residue w (pos 0) = sym (residue_signed w d some ld) ∙ ap (residue w) e in let k : residue w (pos 0) ≡ 0 = residue_natural w 0 some (omega arith) in omega arith

  left_signed : q ≡ signed_quotient_of w (n % 2 ^ w) (d % 2 ^ w) → difference_of w (n % 2 ^ w) (product_of w (q % 2 ^ w) (d % 2 ^ w) % 2 ^ w) ≡ signed_remainder_of w (n % 2 ^ w) (d % 2 ^ w)
  left_signed e =
      let x = signed_number w n in
      let y = signed_number w d in
      let a = residue_signed w n some ln in
      let b = residue_signed w d some ld in
      let r = signed_within w n some ln in
      let t = signed_within w d some ld in
      let quotient : q ≡ residue w (int_div x y) = e ∙ (λ i. signed_quotient_of w (sym a i % 2 ^ w) (sym b i % 2 ^ w)) ∙ divided_signed w some x y r t not_zero in
      (λ i. difference_of w (sym a i % 2 ^ w) (product_of w (q % 2 ^ w) (sym b i % 2 ^ w) % 2 ^ w))
      ∙ left w x y q quotient ∙ sym (rest_signed w some x y r t not_zero) ∙ (λ i. signed_remainder_of w (a i % 2 ^ w) (b i % 2 ^ w))

pub left_remu32 : LeavesByQuotient 32 Sub32 Mul32 Divu32 Remu32
unfolding op2_result op2_on
left_remu32 n d q = left_unsigned 32 (lit< tt) n d q

pub left_remu64 : LeavesByQuotient 64 Sub64 Mul64 Divu64 Remu64
unfolding op2_result op2_on
left_remu64 n d q = left_unsigned 64 (lit< tt) n d q

pub left_rems32 : LeavesByQuotient 32 Sub32 Mul32 Divs32 Rems32
unfolding op2_result op2_on
left_rems32 n d q = left_signed 32 (lit< tt) n d q

pub left_rems64 : LeavesByQuotient 64 Sub64 Mul64 Divs64 Rems64
unfolding op2_result op2_on
left_rems64 n d q = left_signed 64 (lit< tt) n d q
