-- The tables at numbers, by computation: -7 / 2, the least number by -1, 7 % 0, -7 >> 1, 1 << 33, -1 < 1, 4294967295 < 1, and -1 of 8 bits in 32.
use Rattle.std.proofs.Common.{◌≡◌, refl}
use Rattle.el_base.specs.declared.operation.Op1.TheVariants.{S8to32}
use Rattle.el_base.specs.declared.operation.Op2.TheVariants.{Divs32, Rems32, Shrs32, Shl32, Lts32, Ltu32}
use Rattle.word_ops.specs.Operations.{op1_on, op2_on, op1_result, op2_result}

quotient : op2_result Divs32 4294967289 2 ≡ 4294967293
unfolding op2_result op2_on
quotient = refl

least_quotient : op2_result Divs32 2147483648 4294967295 ≡ 2147483648
unfolding op2_result op2_on
least_quotient = refl

least_remainder : op2_result Rems32 2147483648 4294967295 ≡ 0
unfolding op2_result op2_on
least_remainder = refl

remainder_by_zero : op2_result Rems32 7 0 ≡ 0
unfolding op2_result op2_on
remainder_by_zero = refl

signed_shift : op2_result Shrs32 4294967289 1 ≡ 4294967292
unfolding op2_result op2_on
signed_shift = refl

left_shift : op2_result Shl32 1 33 ≡ 2
unfolding op2_result op2_on
left_shift = refl

signed_less : op2_result Lts32 4294967295 1 ≡ 1
unfolding op2_result op2_on
signed_less = refl

unsigned_less : op2_result Ltu32 4294967295 1 ≡ 0
unfolding op2_result op2_on
unsigned_less = refl

extension : op1_result S8to32 255 ≡ 4294967295
unfolding op1_result op1_on
extension = refl
