-- Numbers, types and operators at worked values.
use Rattle.std.proofs.Common.{◌≡◌, [], ◌∷◌, Some, None, refl}
use Rattle.std.specs.Prelude.{true, false, pos, negsuc}
use Rattle.el_base.specs.declared.ty.Ty.TheVariants.{I8, U8, I16, I32, U32, I64, U64}
use Rattle.el_base.specs.Numbers.{pattern, number}
use Rattle.c_ast.specs.declared.tree.Unary.TheVariants.{Flip, Minus, Not}
use Rattle.c_ast.specs.declared.tree.Binary.TheVariants as op
use Rattle.word_ops.specs.Operations.{op1_result, op1_on, op2_result, op2_on}
use Rattle.c_ast.specs.ResultTypes.{promoted, usual, joint_type, result_type}
use Rattle.c_meaning.specs.Types.{range, conv, exact, fit}
use Rattle.c_meaning.specs.declared.profile.Profile.TheVariants.{Plain}
use Rattle.c_meaning.specs.Operators.{unary_value, binary_value}
use Rattle.c_meaning.specs.Patterns.{on_patterns, on_pattern, conversion_op, converted_by}
use Rattle.c_meaning.specs.Stores.{place_from}

in_range : range I8 (pos 127) ≡ true
in_range = refl

out_of_range : range I8 (pos 128) ≡ false
out_of_range = refl

-- a number and its pattern give each other back
pattern_of_minus_one : pattern I16 (negsuc 0) ≡ 65535
pattern_of_minus_one = refl

minus_one_again : number I16 65535 ≡ negsuc 0
minus_one_again = refl

-- 200 as a signed number of 8 bits is -56
converted : conv I8 (pos 200) ≡ negsuc 55
converted = refl

wraps_unsigned : fit Plain U8 (pos 256) ≡ Some (pos 0)
wraps_unsigned = refl

overflows_signed : fit Plain I32 (pos 2147483648) ≡ None
overflows_signed = refl

exact_unsigned : exact U8 (pos 256) ≡ None
exact_unsigned = refl

promotes : promoted U8 ≡ I32
promotes = refl

mixed : usual I32 U32 ≡ U32
mixed = refl

wider : usual U32 I64 ≡ I64
wider = refl

shift_type : joint_type op.Shl I8 U64 ≡ I32
shift_type = refl

-- -7 >> 1 is -4, -7 / 2 is -3 and -7 % 2 is -1
shifted : binary_value Plain op.Shr I32 (negsuc 6) (pos 1) ≡ Some (negsuc 3)
shifted = refl

divided : binary_value Plain op.Div I32 (negsuc 6) (pos 2) ≡ Some (negsuc 2)
divided = refl

remaining : binary_value Plain op.Rem I32 (negsuc 6) (pos 2) ≡ Some (negsuc 0)
remaining = refl

flipped : unary_value Plain Flip U32 (pos 0) ≡ Some (pos 4294967295)
flipped = refl

negated : unary_value Plain Not I64 (pos 5) ≡ Some (pos 0)
negated = refl

-- [1][2] of dimensions 2 and 3 is the last place, and [1][3] is none
last_place : place_from 0 (2 ∷ 3 ∷ []) (pos 1 ∷ pos 2 ∷ []) ≡ Some 5
last_place = refl

no_place : place_from 0 (2 ∷ 3 ∷ []) (pos 1 ∷ pos 3 ∷ []) ≡ None
no_place = refl

-- the operations on patterns give the patterns of these results
sum_of_patterns : on_patterns op.Add I32 (pattern I32 (negsuc 0)) (pattern I32 (pos 3)) ≡ pattern I32 (pos 2)
unfolding op2_result op2_on
sum_of_patterns = refl

-- -1 < 1 as signed numbers, and not as unsigned ones
signed_less : on_patterns op.Lt I32 (pattern I32 (negsuc 0)) (pattern I32 (pos 1)) ≡ pattern (result_type op.Lt I32) (pos 1)
unfolding op2_result op2_on
signed_less = refl

unsigned_less : on_patterns op.Lt U32 (pattern U32 (pos 4294967295)) (pattern U32 (pos 1)) ≡ pattern (result_type op.Lt U32) (pos 0)
unfolding op2_result op2_on
unsigned_less = refl

shift_of_pattern : on_patterns op.Shr I32 (pattern I32 (negsuc 6)) (pattern I32 (pos 1)) ≡ pattern I32 (negsuc 3)
unfolding op2_result op2_on
shift_of_pattern = refl

minus_of_pattern : on_pattern Minus I32 (pattern I32 (pos 5)) ≡ pattern I32 (negsuc 4)
unfolding op1_result op1_on
minus_of_pattern = refl

extended : converted_by (conversion_op I8 I32) (pattern I8 (negsuc 0)) ≡ pattern I32 (negsuc 0)
unfolding op1_result op1_on
extended = refl
