-- The laws of the operations, each from its rule over a width.
use Rattle.std.proofs.Common.{◌≡◌, ◌≢◌, ◌^◌, Bool, true, false, lit<, lit≤, refl, ap, ◌-◌, ◌∙◌}
use Rattle.std.specs.Prelude.{pos, negsuc, ◌+ℤ◌, ◌-ℤ◌, ◌*ℤ◌, neg_ℤ, ◌<ℤ◌, ◌≤ℤ◌, int_div, int_rem, bit_and, bit_or, bit_xor}
use Rattle.std.specs.Int.{int_shr, bit_at, w32, w64}
use Rattle.std.proofs.lemmas.Nat.Bits.{bit_at_not}
use Rattle.el_base.specs.declared.operation.Op1.{Op1}
use Rattle.el_base.specs.declared.operation.Op1.TheVariants.{Neg32, Neg64, Not32, Not64, Zero32, Zero64, S8to16, S8to32, S8to64, S16to32, S16to64, S32to64, U8to16, U8to32, U8to64, U16to32, U16to64, U32to64, Cut16to8, Cut32to8, Cut32to16, Cut64to8, Cut64to16, Cut64to32}
use Rattle.el_base.specs.declared.operation.Op2.{Op2}
use Rattle.el_base.specs.declared.operation.Op2.TheVariants.{Add32, Add64, Sub32, Sub64, Mul32, Mul64, And32, And64, Or32, Or64, Xor32, Xor64, Shl32, Shl64, Shru32, Shru64, Shrs32, Shrs64, Divu32, Divu64, Remu32, Remu64, Divs32, Divs64, Rems32, Rems64, Eq32, Eq64, Ne32, Ne64, Ltu32, Ltu64, Leu32, Leu64, Lts32, Lts64, Les32, Les64}
use Rattle.el_base.specs.Widths.{op1_in, op2_in}
use Rattle.el_base.specs.Numbers.{residue}
use Rattle.word_ops.specs.Operations.{op1_on, op2_on, op1_result, op2_result}
use Rattle.word_ops.specs.Laws.{Law1, Law2, OnResidues1, OnResidues2, Gives1, GivesIn1, Gives2, ByZeroGivesZero, LeastByMinusOneGives, FlipsBits, JoinsBits, Shifts, ShiftsIn, Divides, Tells1, Tells2}
use Rattle.word_ops.proofs.Residues.{residue-residue, residue_below}
use Rattle.word_ops.proofs.Exact.{summed, subtracted, multiplied, negated, flipped, joined, shifted_left, shifted_right, shifted_signed, divided_unsigned, rest_unsigned, divided_signed, rest_signed, told_zero, told_equal, told_unequal, told_less, told_at_most, extended_signed, extended_unsigned, cut}

pub on_residues1 : OnResidues1
unfolding op1_result
on_residues1 op a = λ i. op1_on op (residue-residue (op1_in op) (pos a) i)

pub on_residues2 : OnResidues2
unfolding op2_result
on_residues2 op a b = λ i. op2_on op (residue-residue (op2_in op) (pos a) i) (residue-residue (op2_in op) (pos b) i)

pub add32 : Gives2 Add32 (λ x y. x +ℤ y)
unfolding op2_result op2_on
add32 = summed 32

pub add64 : Gives2 Add64 (λ x y. x +ℤ y)
unfolding op2_result op2_on
add64 = summed 64

pub sub32 : Gives2 Sub32 (λ x y. x -ℤ y)
unfolding op2_result op2_on
sub32 = subtracted 32

pub sub64 : Gives2 Sub64 (λ x y. x -ℤ y)
unfolding op2_result op2_on
sub64 = subtracted 64

pub mul32 : Gives2 Mul32 (λ x y. x *ℤ y)
unfolding op2_result op2_on
mul32 = multiplied 32

pub mul64 : Gives2 Mul64 (λ x y. x *ℤ y)
unfolding op2_result op2_on
mul64 = multiplied 64

pub neg32 : Gives1 Neg32 neg_ℤ
unfolding op1_result op1_on
neg32 = negated 32

pub neg64 : Gives1 Neg64 neg_ℤ
unfolding op1_result op1_on
neg64 = negated 64

pub not32 : Gives1 Not32 (λ x. negsuc 0 -ℤ x)
unfolding op1_result op1_on
not32 = flipped 32

pub not64 : Gives1 Not64 (λ x. negsuc 0 -ℤ x)
unfolding op1_result op1_on
not64 = flipped 64

pub flips32 : FlipsBits Not32
unfolding op1_result op1_on
flips32 = λ x i h. ap (λ n. bit_at (2 ^ 32 - 1 - n) i) (residue-residue 32 x) ∙ bit_at_not w32 (residue 32 x) i (residue_below 32 x) h

pub flips64 : FlipsBits Not64
unfolding op1_result op1_on
flips64 = λ x i h. ap (λ n. bit_at (2 ^ 64 - 1 - n) i) (residue-residue 64 x) ∙ bit_at_not w64 (residue 64 x) i (residue_below 64 x) h

pub and32 : JoinsBits And32 bit_and
unfolding op2_result op2_on
and32 = joined 32 bit_and

pub and64 : JoinsBits And64 bit_and
unfolding op2_result op2_on
and64 = joined 64 bit_and

pub or32 : JoinsBits Or32 bit_or
unfolding op2_result op2_on
or32 = joined 32 bit_or

pub or64 : JoinsBits Or64 bit_or
unfolding op2_result op2_on
or64 = joined 64 bit_or

pub xor32 : JoinsBits Xor32 bit_xor
unfolding op2_result op2_on
xor32 = joined 32 bit_xor

pub xor64 : JoinsBits Xor64 bit_xor
unfolding op2_result op2_on
xor64 = joined 64 bit_xor

pub shl32 : Shifts Shl32 (λ x k. x *ℤ pos (2 ^ k))
unfolding op2_result op2_on
shl32 = λ x k h. shifted_left 32 (lit≤ tt) x k h

pub shl64 : Shifts Shl64 (λ x k. x *ℤ pos (2 ^ k))
unfolding op2_result op2_on
shl64 = λ x k h. shifted_left 64 (lit≤ tt) x k h

pub shru32 : ShiftsIn false Shru32 int_shr
unfolding op2_result op2_on
shru32 = λ x k r h. shifted_right 32 (lit≤ tt) x k h (lit< tt) r

pub shru64 : ShiftsIn false Shru64 int_shr
unfolding op2_result op2_on
shru64 = λ x k r h. shifted_right 64 (lit≤ tt) x k h (lit< tt) r

pub shrs32 : ShiftsIn true Shrs32 int_shr
unfolding op2_result op2_on
shrs32 = λ x k r h. shifted_signed 32 (lit≤ tt) x k h (lit< tt) r

pub shrs64 : ShiftsIn true Shrs64 int_shr
unfolding op2_result op2_on
shrs64 = λ x k r h. shifted_signed 64 (lit≤ tt) x k h (lit< tt) r

pub divu32 : Divides false Divu32 int_div
unfolding op2_result op2_on
divu32 = divided_unsigned 32 (lit< tt)

pub divu64 : Divides false Divu64 int_div
unfolding op2_result op2_on
divu64 = divided_unsigned 64 (lit< tt)

pub remu32 : Divides false Remu32 int_rem
unfolding op2_result op2_on
remu32 = rest_unsigned 32 (lit< tt)

pub remu64 : Divides false Remu64 int_rem
unfolding op2_result op2_on
remu64 = rest_unsigned 64 (lit< tt)

pub divs32 : Divides true Divs32 int_div
unfolding op2_result op2_on
divs32 = divided_signed 32 (lit< tt)

pub divs64 : Divides true Divs64 int_div
unfolding op2_result op2_on
divs64 = divided_signed 64 (lit< tt)

pub rems32 : Divides true Rems32 int_rem
unfolding op2_result op2_on
rems32 = rest_signed 32 (lit< tt)

pub rems64 : Divides true Rems64 int_rem
unfolding op2_result op2_on
rems64 = rest_signed 64 (lit< tt)

pub divu32_zero : ByZeroGivesZero Divu32
unfolding op2_result op2_on
divu32_zero = λ a. refl

pub divu64_zero : ByZeroGivesZero Divu64
unfolding op2_result op2_on
divu64_zero = λ a. refl

pub remu32_zero : ByZeroGivesZero Remu32
unfolding op2_result op2_on
remu32_zero = λ a. refl

pub remu64_zero : ByZeroGivesZero Remu64
unfolding op2_result op2_on
remu64_zero = λ a. refl

pub divs32_zero : ByZeroGivesZero Divs32
unfolding op2_result op2_on
divs32_zero = λ a. refl

pub divs64_zero : ByZeroGivesZero Divs64
unfolding op2_result op2_on
divs64_zero = λ a. refl

pub rems32_zero : ByZeroGivesZero Rems32
unfolding op2_result op2_on
rems32_zero = λ a. refl

pub rems64_zero : ByZeroGivesZero Rems64
unfolding op2_result op2_on
rems64_zero = λ a. refl

pub divs32_least : LeastByMinusOneGives Divs32 (2 ^ 31)
unfolding op2_result op2_on
divs32_least = refl

pub divs64_least : LeastByMinusOneGives Divs64 (2 ^ 63)
unfolding op2_result op2_on
divs64_least = refl

pub rems32_least : LeastByMinusOneGives Rems32 0
unfolding op2_result op2_on
rems32_least = refl

pub rems64_least : LeastByMinusOneGives Rems64 0
unfolding op2_result op2_on
rems64_least = refl

pub zero32 : Tells1 Zero32 (λ x. x ≡ pos 0)
unfolding op1_result op1_on
zero32 = λ s x r. told_zero 32 s x (lit< tt) r

pub zero64 : Tells1 Zero64 (λ x. x ≡ pos 0)
unfolding op1_result op1_on
zero64 = λ s x r. told_zero 64 s x (lit< tt) r

pub eq32 : (s : Bool) → Tells2 s Eq32 (λ x y. x ≡ y)
unfolding op2_result op2_on
eq32 = λ s. told_equal 32 s (lit< tt)

pub eq64 : (s : Bool) → Tells2 s Eq64 (λ x y. x ≡ y)
unfolding op2_result op2_on
eq64 = λ s. told_equal 64 s (lit< tt)

pub ne32 : (s : Bool) → Tells2 s Ne32 (λ x y. x ≢ y)
unfolding op2_result op2_on
ne32 = λ s. told_unequal 32 s (lit< tt)

pub ne64 : (s : Bool) → Tells2 s Ne64 (λ x y. x ≢ y)
unfolding op2_result op2_on
ne64 = λ s. told_unequal 64 s (lit< tt)

pub ltu32 : Tells2 false Ltu32 (λ x y. x <ℤ y)
unfolding op2_result op2_on
ltu32 = told_less 32 false (lit< tt)

pub ltu64 : Tells2 false Ltu64 (λ x y. x <ℤ y)
unfolding op2_result op2_on
ltu64 = told_less 64 false (lit< tt)

pub leu32 : Tells2 false Leu32 (λ x y. x ≤ℤ y)
unfolding op2_result op2_on
leu32 = told_at_most 32 false (lit< tt)

pub leu64 : Tells2 false Leu64 (λ x y. x ≤ℤ y)
unfolding op2_result op2_on
leu64 = told_at_most 64 false (lit< tt)

pub lts32 : Tells2 true Lts32 (λ x y. x <ℤ y)
unfolding op2_result op2_on
lts32 = told_less 32 true (lit< tt)

pub lts64 : Tells2 true Lts64 (λ x y. x <ℤ y)
unfolding op2_result op2_on
lts64 = told_less 64 true (lit< tt)

pub les32 : Tells2 true Les32 (λ x y. x ≤ℤ y)
unfolding op2_result op2_on
les32 = told_at_most 32 true (lit< tt)

pub les64 : Tells2 true Les64 (λ x y. x ≤ℤ y)
unfolding op2_result op2_on
les64 = told_at_most 64 true (lit< tt)

pub s8to16 : GivesIn1 true S8to16 (λ x. x)
unfolding op1_result op1_on
s8to16 = λ x r. extended_signed 8 16 x (lit< tt) r

pub s8to32 : GivesIn1 true S8to32 (λ x. x)
unfolding op1_result op1_on
s8to32 = λ x r. extended_signed 8 32 x (lit< tt) r

pub s8to64 : GivesIn1 true S8to64 (λ x. x)
unfolding op1_result op1_on
s8to64 = λ x r. extended_signed 8 64 x (lit< tt) r

pub s16to32 : GivesIn1 true S16to32 (λ x. x)
unfolding op1_result op1_on
s16to32 = λ x r. extended_signed 16 32 x (lit< tt) r

pub s16to64 : GivesIn1 true S16to64 (λ x. x)
unfolding op1_result op1_on
s16to64 = λ x r. extended_signed 16 64 x (lit< tt) r

pub s32to64 : GivesIn1 true S32to64 (λ x. x)
unfolding op1_result op1_on
s32to64 = λ x r. extended_signed 32 64 x (lit< tt) r

pub u8to16 : GivesIn1 false U8to16 (λ x. x)
unfolding op1_result op1_on
u8to16 = λ x r. extended_unsigned 8 16 x (lit< tt) (lit≤ tt) r

pub u8to32 : GivesIn1 false U8to32 (λ x. x)
unfolding op1_result op1_on
u8to32 = λ x r. extended_unsigned 8 32 x (lit< tt) (lit≤ tt) r

pub u8to64 : GivesIn1 false U8to64 (λ x. x)
unfolding op1_result op1_on
u8to64 = λ x r. extended_unsigned 8 64 x (lit< tt) (lit≤ tt) r

pub u16to32 : GivesIn1 false U16to32 (λ x. x)
unfolding op1_result op1_on
u16to32 = λ x r. extended_unsigned 16 32 x (lit< tt) (lit≤ tt) r

pub u16to64 : GivesIn1 false U16to64 (λ x. x)
unfolding op1_result op1_on
u16to64 = λ x r. extended_unsigned 16 64 x (lit< tt) (lit≤ tt) r

pub u32to64 : GivesIn1 false U32to64 (λ x. x)
unfolding op1_result op1_on
u32to64 = λ x r. extended_unsigned 32 64 x (lit< tt) (lit≤ tt) r

pub cut16to8 : Gives1 Cut16to8 (λ x. x)
unfolding op1_result op1_on
cut16to8 = λ x. cut 16 8 x (lit≤ tt)

pub cut32to8 : Gives1 Cut32to8 (λ x. x)
unfolding op1_result op1_on
cut32to8 = λ x. cut 32 8 x (lit≤ tt)

pub cut32to16 : Gives1 Cut32to16 (λ x. x)
unfolding op1_result op1_on
cut32to16 = λ x. cut 32 16 x (lit≤ tt)

pub cut64to8 : Gives1 Cut64to8 (λ x. x)
unfolding op1_result op1_on
cut64to8 = λ x. cut 64 8 x (lit≤ tt)

pub cut64to16 : Gives1 Cut64to16 (λ x. x)
unfolding op1_result op1_on
cut64to16 = λ x. cut 64 16 x (lit≤ tt)

pub cut64to32 : Gives1 Cut64to32 (λ x. x)
unfolding op1_result op1_on
cut64to32 = λ x. cut 64 32 x (lit≤ tt)

-- the law of each operation
pub law1 : (op : Op1) → Law1 op
law1 Neg32 = neg32
law1 Neg64 = neg64
law1 Not32 = flips32
law1 Not64 = flips64
law1 Zero32 = zero32
law1 Zero64 = zero64
law1 S8to16 = s8to16
law1 S8to32 = s8to32
law1 S8to64 = s8to64
law1 S16to32 = s16to32
law1 S16to64 = s16to64
law1 S32to64 = s32to64
law1 U8to16 = u8to16
law1 U8to32 = u8to32
law1 U8to64 = u8to64
law1 U16to32 = u16to32
law1 U16to64 = u16to64
law1 U32to64 = u32to64
law1 Cut16to8 = cut16to8
law1 Cut32to8 = cut32to8
law1 Cut32to16 = cut32to16
law1 Cut64to8 = cut64to8
law1 Cut64to16 = cut64to16
law1 Cut64to32 = cut64to32

pub law2 : (op : Op2) → Law2 op
law2 Add32 = add32
law2 Add64 = add64
law2 Sub32 = sub32
law2 Sub64 = sub64
law2 Mul32 = mul32
law2 Mul64 = mul64
law2 And32 = and32
law2 And64 = and64
law2 Or32 = or32
law2 Or64 = or64
law2 Xor32 = xor32
law2 Xor64 = xor64
law2 Shl32 = shl32
law2 Shl64 = shl64
law2 Shru32 = shru32
law2 Shru64 = shru64
law2 Shrs32 = shrs32
law2 Shrs64 = shrs64
law2 Divu32 = (divu32, divu32_zero)
law2 Divu64 = (divu64, divu64_zero)
law2 Remu32 = (remu32, remu32_zero)
law2 Remu64 = (remu64, remu64_zero)
law2 Divs32 = (divs32, divs32_zero, divs32_least)
law2 Divs64 = (divs64, divs64_zero, divs64_least)
law2 Rems32 = (rems32, rems32_zero, rems32_least)
law2 Rems64 = (rems64, rems64_zero, rems64_least)
law2 Eq32 = eq32
law2 Eq64 = eq64
law2 Ne32 = ne32
law2 Ne64 = ne64
law2 Ltu32 = ltu32
law2 Ltu64 = ltu64
law2 Leu32 = leu32
law2 Leu64 = leu64
law2 Lts32 = lts32
law2 Lts64 = lts64
law2 Les32 = les32
law2 Les64 = les64
