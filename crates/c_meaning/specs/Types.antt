-- Ranges and conversions of types, and the range rules of results (ISO/IEC 9899:1999 6.2.5, 6.3.1.3, 6.5).
use Rattle.std.specs.Prelude.{Bool, ◌&&◌, ℤ, int_le, if◌then◌else◌, Option, Some, None}
use Rattle.el_base.specs.declared.ty.Ty.{Ty}
use Rattle.el_base.specs.Numbers.{pattern, number, least_in, greatest_in}
use Rattle.el_base.specs.Widths.{ty_width, ty_signed}
use Rattle.c_meaning.specs.declared.profile.Profile.{Profile}
use Rattle.c_meaning.specs.declared.profile.Profile.TheVariants.{Plain, Wrap}

-- the least and the greatest number of a type
abbrev pub least : Ty → ℤ
least t = least_in (ty_signed t) (ty_width t)

abbrev pub greatest : Ty → ℤ
greatest t = greatest_in (ty_signed t) (ty_width t)

-- whether a number lies in the range of a type
abbrev pub range : Ty → ℤ → Bool
range t z = int_le (least t) z && int_le z (greatest t)

-- the number in the range of a type that is congruent to z modulo 2 ^ width
abbrev pub conv : Ty → ℤ → ℤ
conv t z = number t (pattern t z)

-- z where it lies in the range of a type; else the result is undefined
abbrev pub exact : Ty → ℤ → Option ℤ
exact t z = if range t z then Some z else None

-- a signed result: out of range it is undefined (6.5p5), or under Wrap the number in range that is congruent to it
abbrev pub signed_fit : Profile → Ty → ℤ → Option ℤ
signed_fit Plain t z = exact t z
signed_fit Wrap t z = Some (conv t z)

-- The range rule of + - * << and unary -: an unsigned result is reduced modulo 2 ^ width (6.2.5p9).
abbrev pub fit : Profile → Ty → ℤ → Option ℤ
fit p t z = if ty_signed t then signed_fit p t z else Some (conv t z)
