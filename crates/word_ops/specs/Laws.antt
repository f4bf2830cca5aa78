-- What the operations mean on whole numbers: each gives the pattern of the exact result for the patterns of its operands.
-- The residue of a result in the range of a signed type is its pattern there; the residue of any result is the number that an unsigned type reduces it to.
use Rattle.std.specs.Prelude.{ℕ, ◌-◌, ◌%◌, ◌^◌, ◌<◌, ◌≡◌, ◌≢◌, Bool, true, false, pos, ℤ, ◌+ℤ◌, ◌-ℤ◌, ◌*ℤ◌, neg_ℤ, ◌<ℤ◌, ◌≤ℤ◌, int_div, int_rem, bit_and, bit_or, bit_xor}
use Rattle.std.specs.Int.{bit_at, int_shr}
use Rattle.el_base.specs.declared.operation.Op1.{Op1}
use Rattle.el_base.specs.declared.operation.Op1.TheVariants.{Neg32, Neg64, Not32, Not64, Zero32, Zero64, S8to16, S8to32, S8to64, S16to32, S16to64, S32to64, U8to16, U8to32, U8to64, U16to32, U16to64, U32to64, Cut16to8, Cut32to8, Cut32to16, Cut64to8, Cut64to16, Cut64to32}
use Rattle.el_base.specs.declared.operation.Op2.{Op2}
use Rattle.el_base.specs.declared.operation.Op2.TheVariants.{Add32, Add64, Sub32, Sub64, Mul32, Mul64, And32, And64, Or32, Or64, Xor32, Xor64, Shl32, Shl64, Shru32, Shru64, Shrs32, Shrs64, Divu32, Divu64, Remu32, Remu64, Divs32, Divs64, Rems32, Rems64, Eq32, Eq64, Ne32, Ne64, Ltu32, Ltu64, Leu32, Leu64, Lts32, Lts64, Les32, Les64}
use Rattle.el_base.specs.Numbers.{residue, IsWithin}
use Rattle.el_base.specs.Widths.{op1_in, op1_out, op2_in, op2_out}
use Rattle.word_ops.specs.Operations.{op1_result, op2_result}

-- ---- of all operations and all numbers

-- a result is a pattern of the result's width
abbrev pub BelowWidth1 : Type 0
BelowWidth1 = (op : Op1) (a : ℕ) → op1_result op a < 2 ^ op1_out op

abbrev pub BelowWidth2 : Type 0
BelowWidth2 = (op : Op2) (a b : ℕ) → op2_result op a b < 2 ^ op2_out op

-- to reduce an operand first changes nothing
abbrev pub OnResidues1 : Type 0
OnResidues1 = (op : Op1) (a : ℕ) → op1_result op (a % 2 ^ op1_in op) ≡ op1_result op a

abbrev pub OnResidues2 : Type 0
OnResidues2 = (op : Op2) (a b : ℕ) → op2_result op (a % 2 ^ op2_in op) (b % 2 ^ op2_in op) ≡ op2_result op a b

-- ---- of an operation, for the patterns of whole numbers

-- it gives the pattern of f x, for every x; for every x in the range of its signed or unsigned operand
abbrev pub Gives1 : Op1 → (ℤ → ℤ) → Type 0
Gives1 op f = (x : ℤ) → op1_result op (residue (op1_in op) x) ≡ residue (op1_out op) (f x)

abbrev pub GivesIn1 : Bool → Op1 → (ℤ → ℤ) → Type 0
GivesIn1 s op f = (x : ℤ) → IsWithin s (op1_in op) x → op1_result op (residue (op1_in op) x) ≡ residue (op1_out op) (f x)

-- it gives the pattern of f x y, for every x and y; for those in range, where y is not 0
abbrev pub Gives2 : Op2 → (ℤ → ℤ → ℤ) → Type 0
Gives2 op f = (x y : ℤ) → op2_result op (residue (op2_in op) x) (residue (op2_in op) y) ≡ residue (op2_out op) (f x y)

abbrev pub Divides : Bool → Op2 → (ℤ → ℤ → ℤ) → Type 0
Divides s op f = (x y : ℤ) → IsWithin s (op2_in op) x → IsWithin s (op2_in op) y → ¬ (y ≡ pos 0) → op2_result op (residue (op2_in op) x) (residue (op2_in op) y) ≡ residue (op2_out op) (f x y)

-- it gives 0 for divisor 0; for the least number by -1 it gives v
abbrev pub ByZeroGivesZero : Op2 → Type 0
ByZeroGivesZero op = (a : ℕ) → op2_result op a 0 ≡ 0

abbrev pub LeastByMinusOneGives : Op2 → ℕ → Type 0
LeastByMinusOneGives op v = op2_result op (2 ^ (op2_in op - 1)) (2 ^ op2_in op - 1) ≡ v

-- it gives f of the two patterns
abbrev pub JoinsBits : Op2 → (ℕ → ℕ → ℕ) → Type 0
JoinsBits op f = (x y : ℤ) → op2_result op (residue (op2_in op) x) (residue (op2_in op) y) ≡ f (residue (op2_in op) x) (residue (op2_in op) y)

-- each bit of the result is not that bit of the pattern
abbrev pub FlipsBits : Op1 → Type 0
FlipsBits op = (x : ℤ) (i : ℕ) → i < op1_in op → bit_at (op1_result op (residue (op1_in op) x)) i ≡ 1 - bit_at (residue (op1_in op) x) i

-- it gives the pattern of f x k, for an amount k below the width; for x in range
abbrev pub Shifts : Op2 → (ℤ → ℕ → ℤ) → Type 0
Shifts op f = (x : ℤ) (k : ℕ) → k < op2_in op → op2_result op (residue (op2_in op) x) (residue (op2_in op) (pos k)) ≡ residue (op2_out op) (f x k)

abbrev pub ShiftsIn : Bool → Op2 → (ℤ → ℕ → ℤ) → Type 0
ShiftsIn s op f = (x : ℤ) (k : ℕ) → IsWithin s (op2_in op) x → k < op2_in op → op2_result op (residue (op2_in op) x) (residue (op2_in op) (pos k)) ≡ residue (op2_out op) (f x k)

-- v is 1 where P holds, and 0 where it does not
abbrev pub IsTruthOf : ℕ → Type 0 → Type 0
IsTruthOf v P = (P → v ≡ 1) × (¬ P → v ≡ 0)

-- it tells whether R holds of the numbers in range
abbrev pub Tells1 : Op1 → (ℤ → Type 0) → Type 0
Tells1 op R = (s : Bool) (x : ℤ) → IsWithin s (op1_in op) x → IsTruthOf (op1_result op (residue (op1_in op) x)) (R x)

abbrev pub Tells2 : Bool → Op2 → (ℤ → ℤ → Type 0) → Type 0
Tells2 s op R = (x y : ℤ) → IsWithin s (op2_in op) x → IsWithin s (op2_in op) y → IsTruthOf (op2_result op (residue (op2_in op) x) (residue (op2_in op) y)) (R x y)

-- ---- what each operation means

abbrev pub Law1 : Op1 → Type 0
Law1 Neg32 = Gives1 Neg32 neg_ℤ
Law1 Neg64 = Gives1 Neg64 neg_ℤ
Law1 Not32 = FlipsBits Not32
Law1 Not64 = FlipsBits Not64
Law1 Zero32 = Tells1 Zero32 (λ x. x ≡ pos 0)
Law1 Zero64 = Tells1 Zero64 (λ x. x ≡ pos 0)
Law1 S8to16 = GivesIn1 true S8to16 (λ x. x)
Law1 S8to32 = GivesIn1 true S8to32 (λ x. x)
Law1 S8to64 = GivesIn1 true S8to64 (λ x. x)
Law1 S16to32 = GivesIn1 true S16to32 (λ x. x)
Law1 S16to64 = GivesIn1 true S16to64 (λ x. x)
Law1 S32to64 = GivesIn1 true S32to64 (λ x. x)
Law1 U8to16 = GivesIn1 false U8to16 (λ x. x)
Law1 U8to32 = GivesIn1 false U8to32 (λ x. x)
Law1 U8to64 = GivesIn1 false U8to64 (λ x. x)
Law1 U16to32 = GivesIn1 false U16to32 (λ x. x)
Law1 U16to64 = GivesIn1 false U16to64 (λ x. x)
Law1 U32to64 = GivesIn1 false U32to64 (λ x. x)
Law1 Cut16to8 = Gives1 Cut16to8 (λ x. x)
Law1 Cut32to8 = Gives1 Cut32to8 (λ x. x)
Law1 Cut32to16 = Gives1 Cut32to16 (λ x. x)
Law1 Cut64to8 = Gives1 Cut64to8 (λ x. x)
Law1 Cut64to16 = Gives1 Cut64to16 (λ x. x)
Law1 Cut64to32 = Gives1 Cut64to32 (λ x. x)

abbrev pub Law2 : Op2 → Type 0
Law2 Add32 = Gives2 Add32 (λ x y. x +ℤ y)
Law2 Add64 = Gives2 Add64 (λ x y. x +ℤ y)
Law2 Sub32 = Gives2 Sub32 (λ x y. x -ℤ y)
Law2 Sub64 = Gives2 Sub64 (λ x y. x -ℤ y)
Law2 Mul32 = Gives2 Mul32 (λ x y. x *ℤ y)
Law2 Mul64 = Gives2 Mul64 (λ x y. x *ℤ y)
Law2 And32 = JoinsBits And32 bit_and
Law2 And64 = JoinsBits And64 bit_and
Law2 Or32 = JoinsBits Or32 bit_or
Law2 Or64 = JoinsBits Or64 bit_or
Law2 Xor32 = JoinsBits Xor32 bit_xor
Law2 Xor64 = JoinsBits Xor64 bit_xor
Law2 Shl32 = Shifts Shl32 (λ x k. x *ℤ pos (2 ^ k))
Law2 Shl64 = Shifts Shl64 (λ x k. x *ℤ pos (2 ^ k))
Law2 Shru32 = ShiftsIn false Shru32 int_shr
Law2 Shru64 = ShiftsIn false Shru64 int_shr
Law2 Shrs32 = ShiftsIn true Shrs32 int_shr
Law2 Shrs64 = ShiftsIn true Shrs64 int_shr
Law2 Divu32 = Divides false Divu32 int_div × ByZeroGivesZero Divu32
Law2 Divu64 = Divides false Divu64 int_div × ByZeroGivesZero Divu64
Law2 Remu32 = Divides false Remu32 int_rem × ByZeroGivesZero Remu32
Law2 Remu64 = Divides false Remu64 int_rem × ByZeroGivesZero Remu64
Law2 Divs32 = Divides true Divs32 int_div × ByZeroGivesZero Divs32 × LeastByMinusOneGives Divs32 (2 ^ 31)
Law2 Divs64 = Divides true Divs64 int_div × ByZeroGivesZero Divs64 × LeastByMinusOneGives Divs64 (2 ^ 63)
Law2 Rems32 = Divides true Rems32 int_rem × ByZeroGivesZero Rems32 × LeastByMinusOneGives Rems32 0
Law2 Rems64 = Divides true Rems64 int_rem × ByZeroGivesZero Rems64 × LeastByMinusOneGives Rems64 0
Law2 Eq32 = (s : Bool) → Tells2 s Eq32 (λ x y. x ≡ y)
Law2 Eq64 = (s : Bool) → Tells2 s Eq64 (λ x y. x ≡ y)
Law2 Ne32 = (s : Bool) → Tells2 s Ne32 (λ x y. x ≢ y)
Law2 Ne64 = (s : Bool) → Tells2 s Ne64 (λ x y. x ≢ y)
Law2 Ltu32 = Tells2 false Ltu32 (λ x y. x <ℤ y)
Law2 Ltu64 = Tells2 false Ltu64 (λ x y. x <ℤ y)
Law2 Leu32 = Tells2 false Leu32 (λ x y. x ≤ℤ y)
Law2 Leu64 = Tells2 false Leu64 (λ x y. x ≤ℤ y)
Law2 Lts32 = Tells2 true Lts32 (λ x y. x <ℤ y)
Law2 Lts64 = Tells2 true Lts64 (λ x y. x <ℤ y)
Law2 Les32 = Tells2 true Les32 (λ x y. x ≤ℤ y)
Law2 Les64 = Tells2 true Les64 (λ x y. x ≤ℤ y)
