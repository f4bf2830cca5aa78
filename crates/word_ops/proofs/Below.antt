-- Each result is below 2 to its width.
use Rattle.std.proofs.Common.{ℕ, ◌/◌, ◌%◌, ◌^◌, ◌<◌, Bool, true, false, eqb, arith}
use Rattle.std.specs.Prelude.{pos, ◌+ℤ◌, ◌-ℤ◌, ◌*ℤ◌, neg_ℤ, bit_and, ◌==◌, nat_lt, nat_le, not, int_div, int_rem, int_lt, int_le}
use Rattle.std.specs.Int.{from_bool, int_shr}
use Rattle.std.proofs.lemmas.Bool.{cond_both}
use Rattle.std.proofs.lemmas.Nat.{pow_pos, mod_below, and_le_l, or_lt, xor_lt, shr_le}
use Rattle.std.proofs.Math.Nat.{div-le_self, mod-le}
use Rattle.el_base.specs.declared.operation.Op1.TheVariants.{Neg32, Neg64, Not32, Not64, Zero32, Zero64, S8to16, S8to32, S8to64, S16to32, S16to64, S32to64, U8to16, U8to32, U8to64, U16to32, U16to64, U32to64, Cut16to8, Cut32to8, Cut32to16, Cut64to8, Cut64to16, Cut64to32}
use Rattle.el_base.specs.declared.operation.Op2.TheVariants.{Add32, Add64, Sub32, Sub64, Mul32, Mul64, And32, And64, Or32, Or64, Xor32, Xor64, Shl32, Shl64, Shru32, Shru64, Shrs32, Shrs64, Divu32, Divu64, Remu32, Remu64, Divs32, Divs64, Rems32, Rems64, Eq32, Eq64, Ne32, Ne64, Ltu32, Ltu64, Leu32, Leu64, Lts32, Lts64, Les32, Les64}
use Rattle.el_base.specs.Numbers.{residue, signed_number}
use Rattle.word_ops.specs.Operations.{flipped_of, right_shift_of, quotient_of, remainder_of, signed_quotient_of, signed_remainder_of, op1_on, op2_on, op1_result, op2_result}
use Rattle.word_ops.specs.Laws.{BelowWidth1, BelowWidth2}
use Rattle.word_ops.proofs.Residues.{residue_below}

truth_below : (b : Bool) → from_bool b < 2 ^ 32
truth_below true = omega arith
truth_below false = omega arith

flipped_below : (w a : ℕ) → flipped_of w a < 2 ^ w
flipped_below w a = omega (arith, pow_pos w)

and_below : (w a b : ℕ) → a < 2 ^ w → bit_and a b < 2 ^ w
and_below w a b h = omega (arith, and_le_l a b)

shifted_below : (w a b : ℕ) → a < 2 ^ w → right_shift_of w a b < 2 ^ w
shifted_below w a b h = omega (arith, shr_le a (b % w))

quotient_below : (w a b : ℕ) → a < 2 ^ w → quotient_of a b < 2 ^ w
quotient_below w a b h = cond_both (eqb b 0) 0 (a / b) (λ n. n < 2 ^ w) (λ e. pow_pos w) (λ e. omega (arith, div-le_self a b))

remainder_below : (w a b : ℕ) → a < 2 ^ w → remainder_of a b < 2 ^ w
remainder_below w a b h = cond_both (eqb b 0) 0 (a % b) (λ n. n < 2 ^ w) (λ e. pow_pos w) (λ e. omega (arith, mod-le a b))

signed_quotient_below : (w a b : ℕ) → signed_quotient_of w a b < 2 ^ w
signed_quotient_below w a b =
    let z = int_div (signed_number w a) (signed_number w b) in
    cond_both (eqb b 0) 0 (residue w z) (λ n. n < 2 ^ w) (λ e. pow_pos w) (λ e. residue_below w z)

signed_remainder_below : (w a b : ℕ) → signed_remainder_of w a b < 2 ^ w
signed_remainder_below w a b =
    let z = int_rem (signed_number w a) (signed_number w b) in
    cond_both (eqb b 0) 0 (residue w z) (λ n. n < 2 ^ w) (λ e. pow_pos w) (λ e. residue_below w z)

small : (w a : ℕ) → a % 2 ^ w < 2 ^ w
small w a = mod_below a (2 ^ w) (pow_pos w)

pub below_width1 : BelowWidth1
unfolding op1_result op1_on
below_width1 Neg32 a = residue_below 32 (neg_ℤ (pos (a % 2 ^ 32)))
below_width1 Neg64 a = residue_below 64 (neg_ℤ (pos (a % 2 ^ 64)))
below_width1 Not32 a = flipped_below 32 (a % 2 ^ 32)
below_width1 Not64 a = flipped_below 64 (a % 2 ^ 64)
below_width1 Zero32 a = truth_below (a % 2 ^ 32 == 0)
below_width1 Zero64 a = truth_below (a % 2 ^ 64 == 0)
below_width1 S8to16 a = residue_below 16 (signed_number 8 (a % 2 ^ 8))
below_width1 S8to32 a = residue_below 32 (signed_number 8 (a % 2 ^ 8))
below_width1 S8to64 a = residue_below 64 (signed_number 8 (a % 2 ^ 8))
below_width1 S16to32 a = residue_below 32 (signed_number 16 (a % 2 ^ 16))
below_width1 S16to64 a = residue_below 64 (signed_number 16 (a % 2 ^ 16))
below_width1 S32to64 a = residue_below 64 (signed_number 32 (a % 2 ^ 32))
below_width1 U8to16 a = omega arith
below_width1 U8to32 a = omega arith
below_width1 U8to64 a = omega arith
below_width1 U16to32 a = omega arith
below_width1 U16to64 a = omega arith
below_width1 U32to64 a = omega arith
below_width1 Cut16to8 a = small 8 (a % 2 ^ 16)
below_width1 Cut32to8 a = small 8 (a % 2 ^ 32)
below_width1 Cut32to16 a = small 16 (a % 2 ^ 32)
below_width1 Cut64to8 a = small 8 (a % 2 ^ 64)
below_width1 Cut64to16 a = small 16 (a % 2 ^ 64)
below_width1 Cut64to32 a = small 32 (a % 2 ^ 64)

pub below_width2 : BelowWidth2
unfolding op2_result op2_on
below_width2 Add32 a b = residue_below 32 (pos (a % 2 ^ 32) +ℤ pos (b % 2 ^ 32))
below_width2 Add64 a b = residue_below 64 (pos (a % 2 ^ 64) +ℤ pos (b % 2 ^ 64))
below_width2 Sub32 a b = residue_below 32 (pos (a % 2 ^ 32) -ℤ pos (b % 2 ^ 32))
below_width2 Sub64 a b = residue_below 64 (pos (a % 2 ^ 64) -ℤ pos (b % 2 ^ 64))
below_width2 Mul32 a b = residue_below 32 (pos (a % 2 ^ 32) *ℤ pos (b % 2 ^ 32))
below_width2 Mul64 a b = residue_below 64 (pos (a % 2 ^ 64) *ℤ pos (b % 2 ^ 64))
below_width2 And32 a b = and_below 32 (a % 2 ^ 32) (b % 2 ^ 32) (small 32 a)
below_width2 And64 a b = and_below 64 (a % 2 ^ 64) (b % 2 ^ 64) (small 64 a)
below_width2 Or32 a b = or_lt 32 (a % 2 ^ 32) (b % 2 ^ 32) (small 32 a) (small 32 b)
below_width2 Or64 a b = or_lt 64 (a % 2 ^ 64) (b % 2 ^ 64) (small 64 a) (small 64 b)
below_width2 Xor32 a b = xor_lt 32 (a % 2 ^ 32) (b % 2 ^ 32) (small 32 a) (small 32 b)
below_width2 Xor64 a b = xor_lt 64 (a % 2 ^ 64) (b % 2 ^ 64) (small 64 a) (small 64 b)
below_width2 Shl32 a b = residue_below 32 (pos (a % 2 ^ 32) *ℤ pos (2 ^ (b % 2 ^ 32 % 32)))
below_width2 Shl64 a b = residue_below 64 (pos (a % 2 ^ 64) *ℤ pos (2 ^ (b % 2 ^ 64 % 64)))
below_width2 Shru32 a b = shifted_below 32 (a % 2 ^ 32) (b % 2 ^ 32) (small 32 a)
below_width2 Shru64 a b = shifted_below 64 (a % 2 ^ 64) (b % 2 ^ 64) (small 64 a)
below_width2 Shrs32 a b = residue_below 32 (int_shr (signed_number 32 (a % 2 ^ 32)) (b % 2 ^ 32 % 32))
below_width2 Shrs64 a b = residue_below 64 (int_shr (signed_number 64 (a % 2 ^ 64)) (b % 2 ^ 64 % 64))
below_width2 Divu32 a b = quotient_below 32 (a % 2 ^ 32) (b % 2 ^ 32) (small 32 a)
below_width2 Divu64 a b = quotient_below 64 (a % 2 ^ 64) (b % 2 ^ 64) (small 64 a)
below_width2 Remu32 a b = remainder_below 32 (a % 2 ^ 32) (b % 2 ^ 32) (small 32 a)
below_width2 Remu64 a b = remainder_below 64 (a % 2 ^ 64) (b % 2 ^ 64) (small 64 a)
below_width2 Divs32 a b = signed_quotient_below 32 (a % 2 ^ 32) (b % 2 ^ 32)
below_width2 Divs64 a b = signed_quotient_below 64 (a % 2 ^ 64) (b % 2 ^ 64)
below_width2 Rems32 a b = signed_remainder_below 32 (a % 2 ^ 32) (b % 2 ^ 32)
below_width2 Rems64 a b = signed_remainder_below 64 (a % 2 ^ 64) (b % 2 ^ 64)
below_width2 Eq32 a b = truth_below (a % 2 ^ 32 == b % 2 ^ 32)
below_width2 Eq64 a b = truth_below (a % 2 ^ 64 == b % 2 ^ 64)
below_width2 Ne32 a b = truth_below (not (a % 2 ^ 32 == b % 2 ^ 32))
below_width2 Ne64 a b = truth_below (not (a % 2 ^ 64 == b % 2 ^ 64))
below_width2 Ltu32 a b = truth_below (nat_lt (a % 2 ^ 32) (b % 2 ^ 32))
below_width2 Ltu64 a b = truth_below (nat_lt (a % 2 ^ 64) (b % 2 ^ 64))
below_width2 Leu32 a b = truth_below (nat_le (a % 2 ^ 32) (b % 2 ^ 32))
below_width2 Leu64 a b = truth_below (nat_le (a % 2 ^ 64) (b % 2 ^ 64))
below_width2 Lts32 a b = truth_below (int_lt (signed_number 32 (a % 2 ^ 32)) (signed_number 32 (b % 2 ^ 32)))
below_width2 Lts64 a b = truth_below (int_lt (signed_number 64 (a % 2 ^ 64)) (signed_number 64 (b % 2 ^ 64)))
below_width2 Les32 a b = truth_below (int_le (signed_number 32 (a % 2 ^ 32)) (signed_number 32 (b % 2 ^ 32)))
below_width2 Les64 a b = truth_below (int_le (signed_number 64 (a % 2 ^ 64)) (signed_number 64 (b % 2 ^ 64)))
