-- The least amounts that serve a divisor, and the quotients of patterns with them.
use Rattle.std.specs.Prelude.{ℕ, ◌+◌, ◌-◌, ◌*◌, ◌^◌, ◌<◌, ◌≤◌, ◌≡◌, Bool, ◌&&◌, nat_lt, Option, Some, None}
use Rattle.std.specs.Int.{IsPowerOfTwo}
use Rattle.std.specs.List.{find, range_with_len}
use Rattle.el_base.specs.declared.operation.Op2.TheVariants.{Divu32, Divu64, Divs32}
use Rattle.word_ops.specs.Operations.{op2_result}
use Rattle.word_rules.specs.Magic.{IsMagic, IsSignedMagic, FitsWord, reciprocal, binary_digits}
use Rattle.word_rules.specs.Quotients.{shifted_product32, shifted_product64, shifted_long_product, shifted_signed_product}

-- the reciprocal for s is close enough for numbers up to top, and its products with them have 64 bits
abbrev pub serves : ℕ → ℕ → ℕ → Bool
serves top d s = nat_lt ((reciprocal d s * d - 2 ^ s) * top) (2 ^ s) && nat_lt (reciprocal d s * top) (2 ^ 64)

-- it is close enough for signed numbers
abbrev pub serves_signed : ℕ → ℕ → Bool
serves_signed d s = nat_lt ((reciprocal d s * d - 2 ^ s) * 2 ^ 31) (2 ^ s)

-- the least amount of 32 to 63 that serves
unfoldable pub unsigned_amount : ℕ → ℕ → Option ℕ
unsigned_amount top d = find (serves top d) (range_with_len 32 32)

unfoldable pub signed_amount : ℕ → Option ℕ
signed_amount d = find (serves_signed d) (range_with_len 32 32)

-- the quotient with that amount, and with a magic number of 33 bits where there is none
abbrev pub quotient_with : Option ℕ → ℕ → ℕ → ℕ
quotient_with None d n = let t = binary_digits (d - 1) in shifted_long_product n (reciprocal d (32 + t) - 2 ^ 32) t
quotient_with (Some s) d n = shifted_product32 n (reciprocal d s) s

-- what is known of the amount that is found
abbrev pub UnsignedAmountsServe : Type 0
UnsignedAmountsServe =
    (top d s : ℕ) → 0 < d → unsigned_amount top d ≡ Some s → IsMagic top d s (reciprocal d s) × FitsWord top s (reciprocal d s) × (reciprocal d s < 2 ^ 64) × (32 ≤ s)

-- a signed one is always found
abbrev pub SignedAmountsServe : Type 0
SignedAmountsServe =
    (d : ℕ) → 1 < d → d < 2 ^ 31 → ¬ IsPowerOfTwo d → (s : ℕ) × (signed_amount d ≡ Some s) × IsSignedMagic d s (reciprocal d s) × (reciprocal d s < 2 ^ 32) × (32 ≤ s) × (s < 63)

-- quotients with these amounts
abbrev pub UnsignedQuotientsAreMade : Type 0
UnsignedQuotientsAreMade =
    (top d n : ℕ) → 0 < d → d < 2 ^ 32 → top < 2 ^ 32 → n ≤ top → quotient_with (unsigned_amount top d) d n ≡ op2_result Divu32 n d

abbrev pub WideQuotientsAreMade : Type 0
WideQuotientsAreMade =
    (top d s n : ℕ) → 0 < d → d < 2 ^ 64 → top < 2 ^ 64 → n ≤ top → unsigned_amount top d ≡ Some s → shifted_product64 n (reciprocal d s) s ≡ op2_result Divu64 n d

abbrev pub SignedQuotientsAreMade : Type 0
SignedQuotientsAreMade =
    (d s n : ℕ) → 1 < d → d < 2 ^ 31 → ¬ IsPowerOfTwo d → n < 2 ^ 32 → signed_amount d ≡ Some s → shifted_signed_product n (reciprocal d s) s ≡ op2_result Divs32 n d
