-- What each operation gives, on whole numbers and their patterns: sums, differences, products and flips modulo 2 ^ w, shifts by the second operand modulo w, division truncated toward zero, and comparisons as 1 and 0.
-- Every operation is total: each operand is first reduced to its width.
use Rattle.std.specs.Prelude.{ℕ, ◌-◌, ◌/◌, ◌%◌, ◌^◌, ◌==◌, nat_lt, nat_le, pos, ◌+ℤ◌, ◌-ℤ◌, ◌*ℤ◌, neg_ℤ, int_div, int_rem, int_lt, int_le, bit_and, bit_or, bit_xor, if◌then◌else◌, not}
use Rattle.std.specs.Int.{int_shr, from_bool}
use Rattle.el_base.specs.declared.operation.Op1.{Op1}
use Rattle.el_base.specs.declared.operation.Op1.TheVariants.{Neg32, Neg64, Not32, Not64, Zero32, Zero64, S8to16, S8to32, S8to64, S16to32, S16to64, S32to64, U8to16, U8to32, U8to64, U16to32, U16to64, U32to64, Cut16to8, Cut32to8, Cut32to16, Cut64to8, Cut64to16, Cut64to32}
use Rattle.el_base.specs.declared.operation.Op2.{Op2}
use Rattle.el_base.specs.declared.operation.Op2.TheVariants.{Add32, Add64, Sub32, Sub64, Mul32, Mul64, And32, And64, Or32, Or64, Xor32, Xor64, Shl32, Shl64, Shru32, Shru64, Shrs32, Shrs64, Divu32, Divu64, Remu32, Remu64, Divs32, Divs64, Rems32, Rems64, Eq32, Eq64, Ne32, Ne64, Ltu32, Ltu64, Leu32, Leu64, Lts32, Lts64, Les32, Les64}
use Rattle.el_base.specs.Numbers.{residue, signed_number}
use Rattle.el_base.specs.Widths.{op1_in, op2_in}

-- ---- rules over a width w, for operands below 2 ^ w

-- sums, differences, products and negatives are exact, and then reduced modulo 2 ^ w
abbrev pub sum_of : ℕ → ℕ → ℕ → ℕ
sum_of w a b = residue w (pos a +ℤ pos b)

abbrev pub difference_of : ℕ → ℕ → ℕ → ℕ
difference_of w a b = residue w (pos a -ℤ pos b)

abbrev pub product_of : ℕ → ℕ → ℕ → ℕ
product_of w a b = residue w (pos a *ℤ pos b)

abbrev pub negative_of : ℕ → ℕ → ℕ
negative_of w a = residue w (neg_ℤ (pos a))

-- each of the w bits is flipped
abbrev pub flipped_of : ℕ → ℕ → ℕ
flipped_of w a = 2 ^ w - 1 - a

-- shifts by b modulo w: to the left, to the right, and to the right with copies of the sign bit, which divides the signed number by the power of two and rounds down
abbrev pub left_shift_of : ℕ → ℕ → ℕ → ℕ
left_shift_of w a b = residue w (pos a *ℤ pos (2 ^ (b % w)))

abbrev pub right_shift_of : ℕ → ℕ → ℕ → ℕ
right_shift_of w a b = a / 2 ^ (b % w)

abbrev pub signed_shift_of : ℕ → ℕ → ℕ → ℕ
signed_shift_of w a b = residue w (int_shr (signed_number w a) (b % w))

-- quotients and remainders, 0 for divisor 0; signed ones are truncated toward zero, and the remainder has the dividend's sign (ISO/IEC 9899:1999 6.5.5p6).
-- The least number by -1 has a quotient past the greatest number, of which the residue is the least number again.
abbrev pub quotient_of : ℕ → ℕ → ℕ
quotient_of a b = if b == 0 then 0 else (a / b)

abbrev pub remainder_of : ℕ → ℕ → ℕ
remainder_of a b = if b == 0 then 0 else (a % b)

abbrev pub signed_quotient_of : ℕ → ℕ → ℕ → ℕ
signed_quotient_of w a b = if b == 0 then 0 else residue w (int_div (signed_number w a) (signed_number w b))

abbrev pub signed_remainder_of : ℕ → ℕ → ℕ → ℕ
signed_remainder_of w a b = if b == 0 then 0 else residue w (int_rem (signed_number w a) (signed_number w b))

-- 1 where the signed numbers are so ordered, else 0
abbrev pub signed_less_of : ℕ → ℕ → ℕ → ℕ
signed_less_of w a b = from_bool (int_lt (signed_number w a) (signed_number w b))

abbrev pub signed_at_most_of : ℕ → ℕ → ℕ → ℕ
signed_at_most_of w a b = from_bool (int_le (signed_number w a) (signed_number w b))

-- the pattern of v bits of the signed number of a pattern of w bits
abbrev pub extension_of : ℕ → ℕ → ℕ → ℕ
extension_of w v a = residue v (signed_number w a)

-- ---- the tables, for operands that are patterns of the operation's width

unfoldable pub op1_on : Op1 → ℕ → ℕ
op1_on Neg32 a = negative_of 32 a
op1_on Neg64 a = negative_of 64 a
op1_on Not32 a = flipped_of 32 a
op1_on Not64 a = flipped_of 64 a
op1_on Zero32 a = from_bool (a == 0)
op1_on Zero64 a = from_bool (a == 0)
op1_on S8to16 a = extension_of 8 16 a
op1_on S8to32 a = extension_of 8 32 a
op1_on S8to64 a = extension_of 8 64 a
op1_on S16to32 a = extension_of 16 32 a
op1_on S16to64 a = extension_of 16 64 a
op1_on S32to64 a = extension_of 32 64 a
op1_on U8to16 a = a
op1_on U8to32 a = a
op1_on U8to64 a = a
op1_on U16to32 a = a
op1_on U16to64 a = a
op1_on U32to64 a = a
op1_on Cut16to8 a = residue 8 (pos a)
op1_on Cut32to8 a = residue 8 (pos a)
op1_on Cut32to16 a = residue 16 (pos a)
op1_on Cut64to8 a = residue 8 (pos a)
op1_on Cut64to16 a = residue 16 (pos a)
op1_on Cut64to32 a = residue 32 (pos a)

unfoldable pub op2_on : Op2 → ℕ → ℕ → ℕ
op2_on Add32 a b = sum_of 32 a b
op2_on Add64 a b = sum_of 64 a b
op2_on Sub32 a b = difference_of 32 a b
op2_on Sub64 a b = difference_of 64 a b
op2_on Mul32 a b = product_of 32 a b
op2_on Mul64 a b = product_of 64 a b
op2_on And32 a b = bit_and a b
op2_on And64 a b = bit_and a b
op2_on Or32 a b = bit_or a b
op2_on Or64 a b = bit_or a b
op2_on Xor32 a b = bit_xor a b
op2_on Xor64 a b = bit_xor a b
op2_on Shl32 a b = left_shift_of 32 a b
op2_on Shl64 a b = left_shift_of 64 a b
op2_on Shru32 a b = right_shift_of 32 a b
op2_on Shru64 a b = right_shift_of 64 a b
op2_on Shrs32 a b = signed_shift_of 32 a b
op2_on Shrs64 a b = signed_shift_of 64 a b
op2_on Divu32 a b = quotient_of a b
op2_on Divu64 a b = quotient_of a b
op2_on Remu32 a b = remainder_of a b
op2_on Remu64 a b = remainder_of a b
op2_on Divs32 a b = signed_quotient_of 32 a b
op2_on Divs64 a b = signed_quotient_of 64 a b
op2_on Rems32 a b = signed_remainder_of 32 a b
op2_on Rems64 a b = signed_remainder_of 64 a b
op2_on Eq32 a b = from_bool (a == b)
op2_on Eq64 a b = from_bool (a == b)
op2_on Ne32 a b = from_bool (not (a == b))
op2_on Ne64 a b = from_bool (not (a == b))
op2_on Ltu32 a b = from_bool (nat_lt a b)
op2_on Ltu64 a b = from_bool (nat_lt a b)
op2_on Leu32 a b = from_bool (nat_le a b)
op2_on Leu64 a b = from_bool (nat_le a b)
op2_on Lts32 a b = signed_less_of 32 a b
op2_on Lts64 a b = signed_less_of 64 a b
op2_on Les32 a b = signed_at_most_of 32 a b
op2_on Les64 a b = signed_at_most_of 64 a b

-- ---- the results on all numbers: each operand is first reduced to its width

unfoldable pub op1_result : Op1 → ℕ → ℕ
op1_result op a = op1_on op (a % 2 ^ op1_in op)

unfoldable pub op2_result : Op2 → ℕ → ℕ → ℕ
op2_result op a b = op2_on op (a % 2 ^ op2_in op) (b % 2 ^ op2_in op)
