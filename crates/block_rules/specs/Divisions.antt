-- What a division by a constant becomes: products, shifts, sums and masks. Its steps are numbered from the next value of the block on.
use Rattle.std.specs.Prelude.{ℕ, ◌+◌, ◌-◌, ◌^◌, ◌<◌, ◌==◌, nat_lt, ◌&&◌, if◌then◌else◌, Bool, false, List, [], ◌∷◌, Option, Some, None}
use Rattle.el_base.specs.declared.operation.Op1.TheVariants.{S32to64, U32to64, Cut64to32}
use Rattle.el_base.specs.declared.operation.Op2.TheVariants.{Add64, Sub32, Mul64, Shru64, Shrs32, Shrs64}
use Rattle.word_rules.specs.Magic.{reciprocal, binary_digits}
use Rattle.word_rules.specs.Amounts.{unsigned_amount, signed_amount}
use Rattle.ir.specs.declared.instr.Instr.{Instr}
use Rattle.ir.specs.declared.instr.Instr.TheVariants.{Const, One, Two}
use Rattle.block_rules.specs.declared.kind.Kind.{Kind}
use Rattle.block_rules.specs.declared.kind.Kind.TheVariants.{Add, Sub, Mul, And, Or, Xor, Shl, Shru, Shrs, Divu, Remu, Divs, Rems, Eq, Ne, Ltu, Leu, Lts, Les}
use Rattle.block_rules.specs.declared.kind.Word.{Word}
use Rattle.block_rules.specs.declared.kind.Word.TheVariants.{Word32, Word64}
use Rattle.block_rules.specs.declared.division.Division.{Division}
use Rattle.block_rules.specs.declared.rewriting.Rewriting.{Rewriting}
use Rattle.block_rules.specs.declared.rewriting.Rewriting.TheVariants.{Kept, Steps}
use Rattle.block_rules.specs.Kinds.{bits, operation}
use Rattle.block_rules.specs.TwoRules.{exponent_of}

-- so many values more can be numbered
abbrev pub HasRoom : ℕ → Type 0
HasRoom m = m < 2 ^ 32 - 16

-- ---- unsigned, by products

-- of 32 bits: by the least amount, and by a magic number of 33 bits where there is none
abbrev pub quotient32 : Division → Option ℕ → List Instr
quotient32 x None =
    let m = x.next in
    let t = binary_digits (x.divisor - 1) in
    One U32to64 x.left ∷ Const 64 (reciprocal x.divisor (32 + t) - 2 ^ 32) ∷ Two Mul64 m (m + 1) ∷ Const 64 32 ∷ Two Shru64 (m + 2) (m + 3)
    ∷ Two Add64 (m + 4) m ∷ Const 64 t ∷ Two Shru64 (m + 5) (m + 6) ∷ One Cut64to32 (m + 7) ∷ []
quotient32 x (Some s) =
    let m = x.next in
    One U32to64 x.left ∷ Const 64 (reciprocal x.divisor s) ∷ Two Mul64 m (m + 1) ∷ Const 64 s ∷ Two Shru64 (m + 2) (m + 3) ∷ One Cut64to32 (m + 4) ∷ []

-- of 64 bits, where the factor has 32
abbrev pub has_factor : ℕ → Option ℕ → Bool
has_factor d None = false
has_factor d (Some s) = nat_lt (reciprocal d s) (2 ^ 32)

abbrev pub quotient64 : Division → Option ℕ → Rewriting
quotient64 x None = Kept
quotient64 x (Some s) =
    let m = x.next in
    if nat_lt (reciprocal x.divisor s) (2 ^ 32) then Steps (Const 64 (reciprocal x.divisor s) ∷ Two Mul64 x.left m ∷ Const 64 s ∷ Two Shru64 (m + 1) (m + 2) ∷ []) else Kept

unfoldable pub unsigned_quotient : Word → Division → Rewriting
unsigned_quotient Word32 x = Steps (quotient32 x (unsigned_amount x.top x.divisor))
unsigned_quotient Word64 x = if nat_lt x.top (2 ^ 32) then quotient64 x (unsigned_amount x.top x.divisor) else Kept

-- ---- signed, by products

abbrev pub signed32 : Division → Option ℕ → Rewriting
signed32 x None = Kept
signed32 x (Some s) =
    let m = x.next in
    Steps (One S32to64 x.left ∷ Const 64 (reciprocal x.divisor s) ∷ Two Mul64 m (m + 1) ∷ Const 64 s ∷ Two Shrs64 (m + 2) (m + 3) ∷ One Cut64to32 (m + 4)
    ∷ Const 32 31 ∷ Two Shrs32 x.left (m + 6) ∷ Two Sub32 (m + 5) (m + 7) ∷ [])

-- ---- remainders, by quotients

abbrev pub by_quotient : Kind → Word → Division → List Instr
by_quotient div w x = Two (operation div w) x.left x.right ∷ Two (operation Mul w) x.next x.right ∷ Two (operation Sub w) x.left (x.next + 1) ∷ []

unfoldable pub unsigned_remainder : Word → Division → Rewriting
unsigned_remainder Word32 x = Steps (by_quotient Divu Word32 x)
unsigned_remainder Word64 x = if nat_lt x.top (2 ^ 32) && has_factor x.divisor (unsigned_amount x.top x.divisor) then Steps (by_quotient Divu Word64 x) else Kept

-- ---- signed, by 2 ^ k

abbrev pub power_quotient : Word → Division → ℕ → List Instr
power_quotient w x k =
    let m = x.next in
    if k == 1 then Const (bits w) (bits w - 1) ∷ Two (operation Shru w) x.left m ∷ Two (operation Add w) x.left (m + 1) ∷ Const (bits w) 1 ∷ Two (operation Shrs w) (m + 2) (m + 3) ∷ []
    else (Const (bits w) (bits w - 1) ∷ Two (operation Shrs w) x.left m ∷ Const (bits w) (bits w - k) ∷ Two (operation Shru w) (m + 1) (m + 2) ∷ Two (operation Add w) x.left (m + 3)
    ∷ Const (bits w) k ∷ Two (operation Shrs w) (m + 4) (m + 5) ∷ [])

abbrev pub power_remainder : Word → Division → ℕ → List Instr
power_remainder w x k =
    let m = x.next in
    if k == 1 then Const (bits w) (bits w - 1) ∷ Two (operation Shru w) x.left m ∷ Two (operation Add w) x.left (m + 1) ∷ Const (bits w) (2 ^ bits w - 2) ∷ Two (operation And w) (m + 2) (m + 3)
    ∷ Two (operation Sub w) x.left (m + 4) ∷ []
    else (Const (bits w) (bits w - 1) ∷ Two (operation Shrs w) x.left m ∷ Const (bits w) (bits w - k) ∷ Two (operation Shru w) (m + 1) (m + 2) ∷ Two (operation Add w) x.left (m + 3)
    ∷ Const (bits w) (2 ^ bits w - x.divisor) ∷ Two (operation And w) (m + 4) (m + 5) ∷ Two (operation Sub w) x.left (m + 6) ∷ [])

-- ---- signed

abbrev pub no_power_quotient : Word → Division → Rewriting
no_power_quotient Word32 x = signed32 x (signed_amount x.divisor)
no_power_quotient Word64 x = Kept

abbrev pub no_power_remainder : Word → Division → Rewriting
no_power_remainder Word32 x = Steps (by_quotient Divs Word32 x)
no_power_remainder Word64 x = Kept

abbrev pub large_quotient : Word → Division → Option ℕ → Rewriting
large_quotient w x None = no_power_quotient w x
large_quotient w x (Some k) = Steps (power_quotient w x k)

abbrev pub large_remainder : Word → Division → Option ℕ → Rewriting
large_remainder w x None = no_power_remainder w x
large_remainder w x (Some k) = Steps (power_remainder w x k)

-- of numbers that are never negative it is the unsigned one
unfoldable pub signed_quotient : Word → Division → Rewriting
signed_quotient w x = if nat_lt x.top (2 ^ (bits w - 1)) then Steps (Two (operation Divu w) x.left x.right ∷ []) else large_quotient w x (exponent_of x.divisor)

unfoldable pub signed_remainder : Word → Division → Rewriting
signed_remainder w x = if nat_lt x.top (2 ^ (bits w - 1)) then Steps (Two (operation Remu w) x.left x.right ∷ []) else large_remainder w x (exponent_of x.divisor)

-- ---- of an operation

unfoldable pub divided : Kind → Word → Division → Rewriting
divided Add w x = Kept
divided Sub w x = Kept
divided Mul w x = Kept
divided And w x = Kept
divided Or w x = Kept
divided Xor w x = Kept
divided Shl w x = Kept
divided Shru w x = Kept
divided Shrs w x = Kept
divided Divu w x = unsigned_quotient w x
divided Remu w x = unsigned_remainder w x
divided Divs w x = signed_quotient w x
divided Rems w x = signed_remainder w x
divided Eq w x = Kept
divided Ne w x = Kept
divided Ltu w x = Kept
divided Leu w x = Kept
divided Lts w x = Kept
divided Les w x = Kept
