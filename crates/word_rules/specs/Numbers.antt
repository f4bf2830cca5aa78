-- Quotients by products and shifts, on natural and on whole numbers.
-- The source is T. Granlund and P. L. Montgomery, "Division by Invariant Integers using Multiplication", PLDI 1994, 4.2 and 5.2.
use Rattle.std.specs.Prelude.{ℕ, ◌*◌, ◌/◌, ◌^◌, ◌<◌, ◌≡◌, ℤ, pos, ◌-ℤ◌, ◌*ℤ◌, ◌<ℤ◌, int_div}
use Rattle.std.specs.Int.{int_shr}
use Rattle.std.specs.Int.RustNames.{unsigned_abs}
use Rattle.word_rules.specs.Magic.{IsMagic}

-- of a natural number the shifted product is the quotient
abbrev pub ProductsAreQuotients : Type 0
ProductsAreQuotients = (n d s m : ℕ) → 0 < d → IsMagic n d s m → m * n / 2 ^ s ≡ n / d

-- of a negative number it is rounded down, and so one less than the quotient, which is truncated toward zero
abbrev pub ProductsAreBelowQuotients : Type 0
ProductsAreBelowQuotients =
    (x : ℤ) (d s m : ℕ) → 0 < d → x <ℤ pos 0 → 2 ^ s < m * d → IsMagic (unsigned_abs x) d s m → int_shr (x *ℤ pos m) s ≡ int_div x (pos d) -ℤ pos 1
