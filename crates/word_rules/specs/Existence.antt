-- Which magic numbers there are: a search for one ends.
use Rattle.std.specs.Prelude.{ℕ, ◌+◌, ◌-◌, ◌*◌, ◌^◌, ◌<◌, ◌≤◌, ◌≡◌, true}
use Rattle.std.specs.Int.{IsPowerOfTwo, is_power_of_two}
use Rattle.std.specs.Int.Count.{count_leading_zeros}
use Rattle.word_rules.specs.Magic.{IsMagic, IsSignedMagic, HasDigits, reciprocal}

-- a reciprocal is not below 2 ^ s / d, and above it by less than 1
abbrev pub ReciprocalsAreClose : Type 0
ReciprocalsAreClose = (d s : ℕ) → 0 < d → (2 ^ s ≤ reciprocal d s * d) × (reciprocal d s * d < 2 ^ s + d)

-- so it is a magic number where its distance is small enough for numbers up to top, and a factor of 64 bits
abbrev pub CloseReciprocalsAreMagic : Type 0
CloseReciprocalsAreMagic = (d s top : ℕ) → 0 < d → (reciprocal d s * d - 2 ^ s) * top < 2 ^ s → IsMagic top d s (reciprocal d s)

abbrev pub ReciprocalsFitWords : Type 0
ReciprocalsFitWords = (d s : ℕ) → 0 < d → s < 64 → reciprocal d s < 2 ^ 64

-- digits are counted by the zeros that lead them
abbrev pub DigitsAreCounted : Type 0
DigitsAreCounted = (k a : ℕ) → a < 2 ^ k → HasDigits a (k - count_leading_zeros k a)

-- a number is a power of two where one bit of it is set
abbrev pub PowersAreTold : Type 0
PowersAreTold = (d : ℕ) → (is_power_of_two d ≡ true → IsPowerOfTwo d) × (IsPowerOfTwo d → is_power_of_two d ≡ true)

-- for each divisor a magic number of 33 bits serves all numbers of 32 bits; t is below 32 where d is at most 2 ^ 31
abbrev pub LongMagicExists : Type 0
LongMagicExists =
    (d t top : ℕ) → 0 < d → d < 2 ^ 32 → HasDigits (d - 1) t → top < 2 ^ 32 → IsMagic top d (32 + t) (reciprocal d (32 + t)) × (2 ^ 32 ≤ reciprocal d (32 + t)) × (reciprocal d (32 + t) < 2 ^ 33) × (t ≤ 32) × (d ≤ 2 ^ 31 → t < 32)

-- for each divisor that is no power of two there is a signed one, for an amount of 32 to 62
abbrev pub SignedMagicExists : Type 0
SignedMagicExists = (d t : ℕ) → 1 < d → d < 2 ^ 31 → ¬ IsPowerOfTwo d → HasDigits (d - 1) t → IsSignedMagic d (31 + t) (reciprocal d (31 + t)) × (32 ≤ 31 + t) × (31 + t < 63)

-- for amounts up to that one the factor has 32 bits, and its product is above 2 ^ s
abbrev pub SignedFactorsFit : Type 0
SignedFactorsFit = (d t s : ℕ) → 0 < d → d < 2 ^ 31 → HasDigits (d - 1) t → s ≤ 31 + t → reciprocal d s < 2 ^ 32

abbrev pub FactorsAreAbove : Type 0
FactorsAreAbove = (d s : ℕ) → 0 < d → ¬ IsPowerOfTwo d → 2 ^ s < reciprocal d s * d
