-- Magic numbers: factors whose products, shifted to the right, are quotients by a constant.
use Rattle.std.specs.Prelude.{ℕ, ◌+◌, ◌-◌, ◌*◌, ◌^◌, ◌<◌, ◌≤◌}
use Rattle.std.specs.Int.{div_ceil}
use Rattle.std.specs.Int.Count.{count_leading_zeros}

-- m / 2 ^ s is 1 / d, or more by less than 1 / (d * top), so that n / d is m * n / 2 ^ s for each n up to top
pub record IsMagic (top d s m : ℕ) : Type 0 where
  pub above : 2 ^ s ≤ m * d
  pub close : (m * d - 2 ^ s) * top < 2 ^ s

-- the same for signed numbers of 32 bits: m / 2 ^ s is more than 1 / d, so that for each negative number the shifted product is one too low
pub record IsSignedMagic (d s m : ℕ) : Type 0 where
  pub above : 2 ^ s < m * d
  pub close : (m * d - 2 ^ s) * 2 ^ 31 < 2 ^ s

-- the products of m with numbers up to top have at most 64 bits, and s is an amount by which 64 bits are shifted
pub record FitsWord (top s m : ℕ) : Type 0 where
  pub product : m * top < 2 ^ 64
  pub amount : s < 64

-- the least m for which m / 2 ^ s is 1 / d or more
abbrev pub reciprocal : ℕ → ℕ → ℕ
reciprocal d s = div_ceil (2 ^ s) d

-- a has t binary digits, and 0 has none
pub record HasDigits (a t : ℕ) : Type 0 where
  pub below : a < 2 ^ t
  pub least : 2 ^ t ≤ 2 * a + 1

-- how many binary digits a number below 2 ^ 64 has
abbrev pub binary_digits : ℕ → ℕ
binary_digits a = 64 - count_leading_zeros 64 a
