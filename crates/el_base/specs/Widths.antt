-- Widths of types and of the operands and results of operations, in bits.
use Rattle.std.specs.Prelude.{ℕ, Bool, true, false}
use Rattle.el_base.specs.declared.ty.Ty.{Ty}
use Rattle.el_base.specs.declared.ty.Ty.TheVariants.{I8, U8, I16, U16, I32, U32, I64, U64}
use Rattle.el_base.specs.declared.operation.Op1.{Op1}
use Rattle.el_base.specs.declared.operation.Op1.TheVariants.{Neg32, Neg64, Not32, Not64, Zero32, Zero64, S8to16, S8to32, S8to64, S16to32, S16to64, S32to64, U8to16, U8to32, U8to64, U16to32, U16to64, U32to64, Cut16to8, Cut32to8, Cut32to16, Cut64to8, Cut64to16, Cut64to32}
use Rattle.el_base.specs.declared.operation.Op2.{Op2}
use Rattle.el_base.specs.declared.operation.Op2.TheVariants.{Add32, Add64, Sub32, Sub64, Mul32, Mul64, And32, And64, Or32, Or64, Xor32, Xor64, Shl32, Shl64, Shru32, Shru64, Shrs32, Shrs64, Divu32, Divu64, Remu32, Remu64, Divs32, Divs64, Rems32, Rems64, Eq32, Eq64, Ne32, Ne64, Ltu32, Ltu64, Leu32, Leu64, Lts32, Lts64, Les32, Les64}

-- the width of a type
abbrev pub ty_width : Ty → ℕ
ty_width I8 = 8
ty_width U8 = 8
ty_width I16 = 16
ty_width U16 = 16
ty_width I32 = 32
ty_width U32 = 32
ty_width I64 = 64
ty_width U64 = 64

-- whether a type has negative numbers
abbrev pub ty_signed : Ty → Bool
ty_signed I8 = true
ty_signed U8 = false
ty_signed I16 = true
ty_signed U16 = false
ty_signed I32 = true
ty_signed U32 = false
ty_signed I64 = true
ty_signed U64 = false

-- the width of the operand
abbrev pub op1_in : Op1 → ℕ
op1_in Neg32 = 32
op1_in Neg64 = 64
op1_in Not32 = 32
op1_in Not64 = 64
op1_in Zero32 = 32
op1_in Zero64 = 64
op1_in S8to16 = 8
op1_in S8to32 = 8
op1_in S8to64 = 8
op1_in S16to32 = 16
op1_in S16to64 = 16
op1_in S32to64 = 32
op1_in U8to16 = 8
op1_in U8to32 = 8
op1_in U8to64 = 8
op1_in U16to32 = 16
op1_in U16to64 = 16
op1_in U32to64 = 32
op1_in Cut16to8 = 16
op1_in Cut32to8 = 32
op1_in Cut32to16 = 32
op1_in Cut64to8 = 64
op1_in Cut64to16 = 64
op1_in Cut64to32 = 64

-- the width of the result
abbrev pub op1_out : Op1 → ℕ
op1_out Neg32 = 32
op1_out Neg64 = 64
op1_out Not32 = 32
op1_out Not64 = 64
op1_out Zero32 = 32
op1_out Zero64 = 32
op1_out S8to16 = 16
op1_out S8to32 = 32
op1_out S8to64 = 64
op1_out S16to32 = 32
op1_out S16to64 = 64
op1_out S32to64 = 64
op1_out U8to16 = 16
op1_out U8to32 = 32
op1_out U8to64 = 64
op1_out U16to32 = 32
op1_out U16to64 = 64
op1_out U32to64 = 64
op1_out Cut16to8 = 8
op1_out Cut32to8 = 8
op1_out Cut32to16 = 16
op1_out Cut64to8 = 8
op1_out Cut64to16 = 16
op1_out Cut64to32 = 32

-- the width of both operands
abbrev pub op2_in : Op2 → ℕ
op2_in Add32 = 32
op2_in Add64 = 64
op2_in Sub32 = 32
op2_in Sub64 = 64
op2_in Mul32 = 32
op2_in Mul64 = 64
op2_in And32 = 32
op2_in And64 = 64
op2_in Or32 = 32
op2_in Or64 = 64
op2_in Xor32 = 32
op2_in Xor64 = 64
op2_in Shl32 = 32
op2_in Shl64 = 64
op2_in Shru32 = 32
op2_in Shru64 = 64
op2_in Shrs32 = 32
op2_in Shrs64 = 64
op2_in Divu32 = 32
op2_in Divu64 = 64
op2_in Remu32 = 32
op2_in Remu64 = 64
op2_in Divs32 = 32
op2_in Divs64 = 64
op2_in Rems32 = 32
op2_in Rems64 = 64
op2_in Eq32 = 32
op2_in Eq64 = 64
op2_in Ne32 = 32
op2_in Ne64 = 64
op2_in Ltu32 = 32
op2_in Ltu64 = 64
op2_in Leu32 = 32
op2_in Leu64 = 64
op2_in Lts32 = 32
op2_in Lts64 = 64
op2_in Les32 = 32
op2_in Les64 = 64

-- the width of the result: 32 for a comparison
abbrev pub op2_out : Op2 → ℕ
op2_out Add32 = 32
op2_out Add64 = 64
op2_out Sub32 = 32
op2_out Sub64 = 64
op2_out Mul32 = 32
op2_out Mul64 = 64
op2_out And32 = 32
op2_out And64 = 64
op2_out Or32 = 32
op2_out Or64 = 64
op2_out Xor32 = 32
op2_out Xor64 = 64
op2_out Shl32 = 32
op2_out Shl64 = 64
op2_out Shru32 = 32
op2_out Shru64 = 64
op2_out Shrs32 = 32
op2_out Shrs64 = 64
op2_out Divu32 = 32
op2_out Divu64 = 64
op2_out Remu32 = 32
op2_out Remu64 = 64
op2_out Divs32 = 32
op2_out Divs64 = 64
op2_out Rems32 = 32
op2_out Rems64 = 64
op2_out Eq32 = 32
op2_out Eq64 = 32
op2_out Ne32 = 32
op2_out Ne64 = 32
op2_out Ltu32 = 32
op2_out Ltu64 = 32
op2_out Leu32 = 32
op2_out Leu64 = 32
op2_out Lts32 = 32
op2_out Lts64 = 32
op2_out Les32 = 32
op2_out Les64 = 32
