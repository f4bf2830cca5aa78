-- Whole numbers and their patterns: what a type can hold, and two's complement (ISO/IEC 9899:1999 6.2.5, 6.2.6.2, 6.3.1.3).
use Rattle.std.specs.Prelude.{ℕ, ◌-◌, ◌^◌, pos, ℤ, ◌-ℤ◌, ◌≤ℤ◌, nat_lt, if◌then◌else◌, Bool, true, false}
use Rattle.std.specs.Int.{int_rem_euclid}
use Rattle.std.specs.Int.RustNames.{unsigned_abs}
use Rattle.el_base.specs.declared.ty.Ty.{Ty}
use Rattle.el_base.specs.Widths.{ty_width, ty_signed}

-- z modulo 2 ^ w, a number from 0 to 2 ^ w - 1
abbrev pub residue : ℕ → ℤ → ℕ
residue w z = unsigned_abs (int_rem_euclid z (pos (2 ^ w)))

-- the number of a pattern of w bits that is read as two's complement
abbrev pub signed_number : ℕ → ℕ → ℤ
signed_number w p = if nat_lt p (2 ^ (w - 1)) then pos p else (pos p -ℤ pos (2 ^ w))

-- the number of a pattern, read as signed or as unsigned
abbrev pub number_in : Bool → ℕ → ℕ → ℤ
number_in true w p = signed_number w p
number_in false w p = pos p

-- the pattern of a number in a type
abbrev pub pattern : Ty → ℤ → ℕ
pattern t z = residue (ty_width t) z

-- the number that a pattern stands for in a type
abbrev pub number : Ty → ℕ → ℤ
number t p = number_in (ty_signed t) (ty_width t) p

-- the least number of a signed or unsigned type of w bits, and the greatest
abbrev pub least_in : Bool → ℕ → ℤ
least_in true w = pos 0 -ℤ pos (2 ^ (w - 1))
least_in false w = pos 0

abbrev pub greatest_in : Bool → ℕ → ℤ
greatest_in true w = pos (2 ^ (w - 1)) -ℤ pos 1
greatest_in false w = pos (2 ^ w) -ℤ pos 1

-- a number lies in the range of a signed or unsigned type of w bits
pub record IsWithin (signed : Bool) (w : ℕ) (z : ℤ) : Type 0 where
  pub above : least_in signed w ≤ℤ z
  pub below : z ≤ℤ greatest_in signed w

-- a number lies in the range of a type
abbrev pub IsInRange : Ty → ℤ → Type 0
IsInRange t z = IsWithin (ty_signed t) (ty_width t) z
