-- What an operator gives for whole numbers, in a type; None is undefined. Each case of undefined is one line with None or with a rule that says so: exact, fit, amount (ISO/IEC 9899:1999 6.5.3.3, 6.5.5 to 6.5.12).
use Rattle.std.specs.Prelude.{ℕ, ◌^◌, ◌==◌, nat_lt, pos, negsuc, ℤ, ◌+ℤ◌, ◌-ℤ◌, ◌*ℤ◌, neg_ℤ, int_div, int_lt, int_le, Bool, true, false, ◌&&◌, not, if◌then◌else◌, Option, Some, None, bit_and, bit_or, bit_xor, option_and_then}
use Rattle.std.specs.Int.{int_shr, is_negative}
use Rattle.std.specs.Ordering.{int_eq}
use Rattle.el_base.specs.declared.ty.Ty.{Ty}
use Rattle.el_base.specs.Numbers.{pattern, number}
use Rattle.el_base.specs.Widths.{ty_width, ty_signed}
use Rattle.c_ast.specs.declared.tree.Unary.{Unary}
use Rattle.c_ast.specs.declared.tree.Unary.TheVariants.{Plus, Minus, Flip, Not}
use Rattle.c_ast.specs.declared.tree.Binary.{Binary}
use Rattle.c_ast.specs.declared.tree.Binary.TheVariants.{Mul, Div, Rem, Add, Sub, Shl, Shr, Lt, Gt, Le, Ge, Eq, Ne, And, Xor, Or, Both, Either}
use Rattle.c_meaning.specs.declared.profile.Profile.{Profile}
use Rattle.c_meaning.specs.declared.profile.Profile.TheVariants.{Plain, Wrap}
use Rattle.c_meaning.specs.Types.{conv, exact, fit}

abbrev pub is_zero : ℤ → Bool
is_zero (pos n) = n == 0
is_zero (negsuc n) = false

-- 1 where a comparison holds, else 0
abbrev pub truth : Bool → ℤ
truth true = pos 1
truth false = pos 0

-- a zero divisor is undefined, and so is a quotient out of range
abbrev pub quotient : Ty → ℤ → ℤ → Option ℤ
quotient t x y = if is_zero y then None else exact t (int_div x y)

-- a remainder is undefined where its quotient is: for a zero divisor, and for the least number by -1
abbrev pub remainder : Ty → ℤ → ℤ → Option ℤ
remainder t x y = option_and_then (λ q. Some (x -ℤ q *ℤ y)) (quotient t x y)

-- a shift amount that is negative or not below the width is undefined
abbrev pub amount : Ty → ℤ → Option ℕ
amount t (pos k) = if nat_lt k (ty_width t) then Some k else None
amount t (negsuc k) = None

-- the product by the power of two; under Plain a signed << of a negative number is undefined, and so is one with a product out of range
abbrev pub left_shift : Profile → Ty → ℤ → ℕ → Option ℤ
left_shift Plain t x k = if (ty_signed t && is_negative x) then None else fit Plain t (x *ℤ pos (2 ^ k))
left_shift Wrap t x k = fit Wrap t (x *ℤ pos (2 ^ k))

-- a signed >> is arithmetic: the quotient by the power of two, rounded down
abbrev pub right_shift : ℤ → ℕ → Option ℤ
right_shift x k = Some (int_shr x k)

-- the number whose pattern is made from the patterns of two
abbrev pub joined : Ty → (ℕ → ℕ → ℕ) → ℤ → ℤ → Option ℤ
joined t f x y = Some (number t (f (pattern t x) (pattern t y)))

-- An operator on one operand: t is the type of the result. A flipped pattern is that of -1 - x.
abbrev pub unary_value : Profile → Unary → Ty → ℤ → Option ℤ
unary_value p Plus t x = Some x
unary_value p Minus t x = fit p t (neg_ℤ x)
unary_value p Flip t x = Some (conv t (negsuc 0 -ℤ x))
unary_value p Not t x = Some (truth (is_zero x))

-- An operator on two operands: t is the type of the result. && and || do not evaluate both, so they give nothing here.
abbrev pub binary_value : Profile → Binary → Ty → ℤ → ℤ → Option ℤ
binary_value p Mul t x y = fit p t (x *ℤ y)
binary_value p Div t x y = quotient t x y
binary_value p Rem t x y = remainder t x y
binary_value p Add t x y = fit p t (x +ℤ y)
binary_value p Sub t x y = fit p t (x -ℤ y)
binary_value p Shl t x y = option_and_then (left_shift p t x) (amount t y)
binary_value p Shr t x y = option_and_then (right_shift x) (amount t y)
binary_value p Lt t x y = Some (truth (int_lt x y))
binary_value p Gt t x y = Some (truth (int_lt y x))
binary_value p Le t x y = Some (truth (int_le x y))
binary_value p Ge t x y = Some (truth (int_le y x))
binary_value p Eq t x y = Some (truth (int_eq x y))
binary_value p Ne t x y = Some (truth (not (int_eq x y)))
binary_value p And t x y = joined t bit_and x y
binary_value p Xor t x y = joined t bit_xor x y
binary_value p Or t x y = joined t bit_or x y
binary_value p Both t x y = None
binary_value p Either t x y = None
