-- Products, quotients and remainders of patterns by powers of two.
use Rattle.std.proofs.Common.{◌≡◌, ℕ, ◌-◌, ◌/◌, ◌%◌, ◌^◌, ◌<◌, ◌≤◌, lit≤, false, eqb, sym, ◌∙◌, ap, arith}
use Rattle.std.specs.Prelude.{pos, ◌*ℤ◌, bit_and}
use Rattle.std.proofs.lemmas.Bool.{cond-false, ne_eqb}
use Rattle.std.proofs.lemmas.Nat.{pow_pos, pow_below, and_mask}
use Rattle.el_base.specs.declared.operation.Op2.TheVariants.{Mul32, Mul64, And32, And64, Shl32, Shl64, Shru32, Shru64, Divu32, Divu64, Remu32, Remu64}
use Rattle.el_base.specs.Numbers.{residue}
use Rattle.word_ops.specs.Operations.{op2_on, op2_result, product_of, left_shift_of, right_shift_of, quotient_of, remainder_of}
use Rattle.word_rules.specs.Quotients.{ReplacesPower}
use Rattle.word_rules.proofs.Patterns.{kept, amount_small}

module _ (w : ℕ) (fits : w ≤ 2 ^ w) (n k : ℕ) (l : k < w) where
  power : 2 ^ k % 2 ^ w ≡ 2 ^ k
  power = kept w (2 ^ k) (pow_below k w l)

  amount : k % 2 ^ w % w ≡ k
  amount = amount_small w k fits l

  not_zero : eqb (2 ^ k) 0 ≡ false
  not_zero = ne_eqb (2 ^ k) 0 (λ e. omega (arith, pow_pos k))

  product : left_shift_of w (n % 2 ^ w) (k % 2 ^ w) ≡ product_of w (n % 2 ^ w) (2 ^ k % 2 ^ w)
  product = ap (λ j. residue w (pos (n % 2 ^ w) *ℤ pos (2 ^ j))) amount ∙ ap (product_of w (n % 2 ^ w)) (sym power)

  quotient : right_shift_of w (n % 2 ^ w) (k % 2 ^ w) ≡ quotient_of (n % 2 ^ w) (2 ^ k % 2 ^ w)
  quotient =
      ap (λ j. n % 2 ^ w / 2 ^ j) amount ∙ sym (cond-false (eqb (2 ^ k) 0) 0 (n % 2 ^ w / 2 ^ k) not_zero)
      ∙ ap (quotient_of (n % 2 ^ w)) (sym power)

  remainder : bit_and (n % 2 ^ w) ((2 ^ k - 1) % 2 ^ w) ≡ remainder_of (n % 2 ^ w) (2 ^ k % 2 ^ w)
  remainder =
      ap (bit_and (n % 2 ^ w)) (kept w (2 ^ k - 1) (omega (arith, pow_below k w l))) ∙ and_mask (n % 2 ^ w) k
      ∙ sym (cond-false (eqb (2 ^ k) 0) 0 (n % 2 ^ w % 2 ^ k) not_zero) ∙ ap (remainder_of (n % 2 ^ w)) (sym power)

pub mul32 : ReplacesPower 32 Shl32 (λ k. k) Mul32
unfolding op2_result op2_on
mul32 = product 32 (lit≤ tt)

pub mul64 : ReplacesPower 64 Shl64 (λ k. k) Mul64
unfolding op2_result op2_on
mul64 = product 64 (lit≤ tt)

pub divu32 : ReplacesPower 32 Shru32 (λ k. k) Divu32
unfolding op2_result op2_on
divu32 = quotient 32 (lit≤ tt)

pub divu64 : ReplacesPower 64 Shru64 (λ k. k) Divu64
unfolding op2_result op2_on
divu64 = quotient 64 (lit≤ tt)

pub remu32 : ReplacesPower 32 And32 (λ k. 2 ^ k - 1) Remu32
unfolding op2_result op2_on
remu32 = remainder 32 (lit≤ tt)

pub remu64 : ReplacesPower 64 And64 (λ k. 2 ^ k - 1) Remu64
unfolding op2_result op2_on
remu64 = remainder 64 (lit≤ tt)
