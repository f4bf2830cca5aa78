-- The words of types and operations in a net text.
use Rattle.std.specs.Prelude.{ℕ, List, codes}
use Rattle.el_base.specs.declared.ty.Ty.{Ty}
use Rattle.el_base.specs.declared.ty.Ty.TheVariants.{I8, U8, I16, U16, I32, U32, I64, U64}
use Rattle.el_base.specs.declared.operation.Op1.{Op1}
use Rattle.el_base.specs.declared.operation.Op1.TheVariants.{Neg32, Neg64, Not32, Not64, Zero32, Zero64, S8to16, S8to32, S8to64, S16to32, S16to64, S32to64, U8to16, U8to32, U8to64, U16to32, U16to64, U32to64, Cut16to8, Cut32to8, Cut32to16, Cut64to8, Cut64to16, Cut64to32}
use Rattle.el_base.specs.declared.operation.Op2.{Op2}
use Rattle.el_base.specs.declared.operation.Op2.TheVariants.{Add32, Add64, Sub32, Sub64, Mul32, Mul64, And32, And64, Or32, Or64, Xor32, Xor64, Shl32, Shl64, Shru32, Shru64, Shrs32, Shrs64, Divu32, Divu64, Remu32, Remu64, Divs32, Divs64, Rems32, Rems64, Eq32, Eq64, Ne32, Ne64, Ltu32, Ltu64, Leu32, Leu64, Lts32, Lts64, Les32, Les64}

-- the word of a type
abbrev pub ty_name : Ty → List ℕ
ty_name I8 = codes "i8"
ty_name U8 = codes "u8"
ty_name I16 = codes "i16"
ty_name U16 = codes "u16"
ty_name I32 = codes "i32"
ty_name U32 = codes "u32"
ty_name I64 = codes "i64"
ty_name U64 = codes "u64"

-- the word of an operation on one pattern
abbrev pub op1_name : Op1 → List ℕ
op1_name Neg32 = codes "neg32"
op1_name Neg64 = codes "neg64"
op1_name Not32 = codes "not32"
op1_name Not64 = codes "not64"
op1_name Zero32 = codes "zero32"
op1_name Zero64 = codes "zero64"
op1_name S8to16 = codes "s8to16"
op1_name S8to32 = codes "s8to32"
op1_name S8to64 = codes "s8to64"
op1_name S16to32 = codes "s16to32"
op1_name S16to64 = codes "s16to64"
op1_name S32to64 = codes "s32to64"
op1_name U8to16 = codes "u8to16"
op1_name U8to32 = codes "u8to32"
op1_name U8to64 = codes "u8to64"
op1_name U16to32 = codes "u16to32"
op1_name U16to64 = codes "u16to64"
op1_name U32to64 = codes "u32to64"
op1_name Cut16to8 = codes "cut16to8"
op1_name Cut32to8 = codes "cut32to8"
op1_name Cut32to16 = codes "cut32to16"
op1_name Cut64to8 = codes "cut64to8"
op1_name Cut64to16 = codes "cut64to16"
op1_name Cut64to32 = codes "cut64to32"

-- the word of an operation on two patterns
abbrev pub op2_name : Op2 → List ℕ
op2_name Add32 = codes "add32"
op2_name Add64 = codes "add64"
op2_name Sub32 = codes "sub32"
op2_name Sub64 = codes "sub64"
op2_name Mul32 = codes "mul32"
op2_name Mul64 = codes "mul64"
op2_name And32 = codes "and32"
op2_name And64 = codes "and64"
op2_name Or32 = codes "or32"
op2_name Or64 = codes "or64"
op2_name Xor32 = codes "xor32"
op2_name Xor64 = codes "xor64"
op2_name Shl32 = codes "shl32"
op2_name Shl64 = codes "shl64"
op2_name Shru32 = codes "shru32"
op2_name Shru64 = codes "shru64"
op2_name Shrs32 = codes "shrs32"
op2_name Shrs64 = codes "shrs64"
op2_name Divu32 = codes "divu32"
op2_name Divu64 = codes "divu64"
op2_name Remu32 = codes "remu32"
op2_name Remu64 = codes "remu64"
op2_name Divs32 = codes "divs32"
op2_name Divs64 = codes "divs64"
op2_name Rems32 = codes "rems32"
op2_name Rems64 = codes "rems64"
op2_name Eq32 = codes "eq32"
op2_name Eq64 = codes "eq64"
op2_name Ne32 = codes "ne32"
op2_name Ne64 = codes "ne64"
op2_name Ltu32 = codes "ltu32"
op2_name Ltu64 = codes "ltu64"
op2_name Leu32 = codes "leu32"
op2_name Leu64 = codes "leu64"
op2_name Lts32 = codes "lts32"
op2_name Lts64 = codes "lts64"
op2_name Les32 = codes "les32"
op2_name Les64 = codes "les64"
