-- Quotients and remainders of patterns by constants, as products, shifts, sums and masks.
use Rattle.std.specs.Prelude.{ℕ, ◌+◌, ◌-◌, ◌^◌, ◌<◌, ◌≤◌, ◌≡◌, ◌==◌, if◌then◌else◌}
use Rattle.el_base.specs.declared.operation.Op1.TheVariants.{S32to64, U32to64, Cut64to32}
use Rattle.el_base.specs.declared.operation.Op2.{Op2}
use Rattle.el_base.specs.declared.operation.Op2.TheVariants.{Add32, Add64, Sub32, Mul64, Shru32, Shru64, Shrs32, Shrs64, Divu32, Divs32}
use Rattle.word_ops.specs.Operations.{op1_result, op2_result}
use Rattle.word_rules.specs.Magic.{IsMagic, IsSignedMagic, FitsWord}

-- ---- by powers of two, unsigned

-- the operation new by f k gives what the operation old gives by 2 ^ k
abbrev pub ReplacesPower : ℕ → Op2 → (ℕ → ℕ) → Op2 → Type 0
ReplacesPower w new f old = (n k : ℕ) → k < w → op2_result new n (f k) ≡ op2_result old n (2 ^ k)

-- ---- unsigned quotients

-- the product with m, shifted to the right by s: of patterns of 64 bits, and of 32 bits
abbrev pub shifted_product64 : ℕ → ℕ → ℕ → ℕ
shifted_product64 n m s = op2_result Shru64 (op2_result Mul64 n m) s

abbrev pub shifted_product32 : ℕ → ℕ → ℕ → ℕ
shifted_product32 n m s = op1_result Cut64to32 (shifted_product64 (op1_result U32to64 n) m s)

-- the product with 2 ^ 32 + m, shifted to the right by 32 + t
abbrev pub shifted_long_product : ℕ → ℕ → ℕ → ℕ
shifted_long_product n m t =
    let x = op1_result U32to64 n in
    let high = op2_result Shru64 (op2_result Mul64 x m) 32 in
    op1_result Cut64to32 (op2_result Shru64 (op2_result Add64 high x) t)

-- for patterns of w bits up to top, shifted products by a magic number are quotients
abbrev pub DividesByProduct : ℕ → Op2 → (ℕ → ℕ → ℕ → ℕ) → Type 0
DividesByProduct w divu f =
    (top d s m n : ℕ) → 0 < d → d < 2 ^ w → n < 2 ^ w → n ≤ top → IsMagic top d s m → FitsWord top s m → f n m s ≡ op2_result divu n d

-- the same for a magic number of 33 bits
abbrev pub DividesByLongProduct : Type 0
DividesByLongProduct =
    (top d t m n : ℕ) → 0 < d → d < 2 ^ 32 → n < 2 ^ 32 → n ≤ top → IsMagic top d (32 + t) (2 ^ 32 + m) → m < 2 ^ 32 → t < 64 → shifted_long_product n m t ≡ op2_result Divu32 n d

-- ---- signed quotients

-- the product with m, shifted to the right by s and rounded down, and one more for a negative number
abbrev pub shifted_signed_product : ℕ → ℕ → ℕ → ℕ
shifted_signed_product n m s =
    let floor = op1_result Cut64to32 (op2_result Shrs64 (op2_result Mul64 (op1_result S32to64 n) m) s) in
    op2_result Sub32 floor (op2_result Shrs32 n 31)

abbrev pub DividesBySignedProduct : Type 0
DividesBySignedProduct =
    (d s m n : ℕ) → 0 < d → d < 2 ^ 31 → n < 2 ^ 32 → IsSignedMagic d s m → m < 2 ^ 32 → s < 64 → shifted_signed_product n m s ≡ op2_result Divs32 n d

-- n, and 2 ^ k - 1 more where it is negative: that are copies of the sign bit, of which the lowest k stay
abbrev pub biased32 : ℕ → ℕ → ℕ
biased32 n k = op2_result Add32 n (op2_result Shru32 (if k == 1 then n else op2_result Shrs32 n 31) (32 - k))

abbrev pub biased64 : ℕ → ℕ → ℕ
biased64 n k = op2_result Add64 n (op2_result Shru64 (if k == 1 then n else op2_result Shrs64 n 63) (64 - k))

-- by 2 ^ k: the biased number is shifted; without its lowest k bits it is what n exceeds by the remainder
abbrev pub DividesByShift : ℕ → (ℕ → ℕ → ℕ) → Op2 → Op2 → Type 0
DividesByShift w f shrs divs =
    (n k : ℕ) → n < 2 ^ w → 1 ≤ k → k < w - 1 → op2_result shrs (f n k) k ≡ op2_result divs n (2 ^ k)

abbrev pub LeavesByMask : ℕ → (ℕ → ℕ → ℕ) → Op2 → Op2 → Op2 → Type 0
LeavesByMask w f sub and rems =
    (n k : ℕ) → n < 2 ^ w → 1 ≤ k → k < w - 1 → op2_result sub n (op2_result and (f n k) (2 ^ w - 2 ^ k)) ≡ op2_result rems n (2 ^ k)

-- ---- of either kind

-- for numbers that are not negative the two operations give the same
abbrev pub SameWithoutSign : ℕ → Op2 → Op2 → Type 0
SameWithoutSign w s u = (n d : ℕ) → n < 2 ^ (w - 1) → d < 2 ^ (w - 1) → op2_result s n d ≡ op2_result u n d

-- the remainder is n less the product of quotient and divisor
abbrev pub LeavesByQuotient : ℕ → Op2 → Op2 → Op2 → Op2 → Type 0
LeavesByQuotient w sub mul div rem =
    (n d q : ℕ) → n < 2 ^ w → 0 < d → d < 2 ^ w → q ≡ op2_result div n d → op2_result sub n (op2_result mul q d) ≡ op2_result rem n d
