-- The types of results: integer promotion, the usual arithmetic conversions, and what each operator gives (ISO/IEC 9899:1999 6.3.1.1, 6.3.1.8, 6.5.3.3, 6.5.5 to 6.5.14).
use Rattle.el_base.specs.declared.ty.Ty.{Ty}
use Rattle.el_base.specs.declared.ty.Ty.TheVariants.{I8, U8, I16, U16, I32, U32, I64, U64}
use Rattle.c_ast.specs.declared.tree.Unary.{Unary}
use Rattle.c_ast.specs.declared.tree.Unary.TheVariants.{Plus, Minus, Flip, Not}
use Rattle.c_ast.specs.declared.tree.Binary.{Binary}
use Rattle.c_ast.specs.declared.tree.Binary.TheVariants.{Mul, Div, Rem, Add, Sub, Shl, Shr, Lt, Gt, Le, Ge, Eq, Ne, And, Xor, Or, Both, Either}
use Rattle.c_ast.specs.declared.tree.Family.{Family}
use Rattle.c_ast.specs.declared.tree.Family.TheVariants.{Arithmetic, Shift, Bits, Comparison, Logical}

-- integer promotion: types of 8 and 16 bits become I32 (6.3.1.1p2)
abbrev pub promoted : Ty → Ty
promoted I8 = I32
promoted U8 = I32
promoted I16 = I32
promoted U16 = I32
promoted I32 = I32
promoted U32 = U32
promoted I64 = I64
promoted U64 = U64

-- the usual arithmetic conversions of two promoted types (6.3.1.8); a type that is not promoted does not come here, and gives way to any other
abbrev pub common : Ty → Ty → Ty
common U64 b = U64
common I64 I8 = I64
common I64 U8 = I64
common I64 I16 = I64
common I64 U16 = I64
common I64 I32 = I64
common I64 U32 = I64
common I64 I64 = I64
common I64 U64 = U64
common U32 I8 = U32
common U32 U8 = U32
common U32 I16 = U32
common U32 U16 = U32
common U32 I32 = U32
common U32 U32 = U32
common U32 I64 = I64
common U32 U64 = U64
common I32 b = b
common U16 b = b
common I16 b = b
common U8 b = b
common I8 b = b

-- the type in which two operands are joined
abbrev pub usual : Ty → Ty → Ty
usual a b = common (promoted a) (promoted b)

-- the family of an operator: those of a family take their operands alike and give results of one kind
abbrev pub family : Binary → Family
family Mul = Arithmetic
family Div = Arithmetic
family Rem = Arithmetic
family Add = Arithmetic
family Sub = Arithmetic
family Shl = Shift
family Shr = Shift
family Lt = Comparison
family Gt = Comparison
family Le = Comparison
family Ge = Comparison
family Eq = Comparison
family Ne = Comparison
family And = Bits
family Xor = Bits
family Or = Bits
family Both = Logical
family Either = Logical

-- the type in which an operator joins operands of two types: the promoted left one for a shift, else the usual one
abbrev pub joint_of_family : Family → Ty → Ty → Ty
joint_of_family Arithmetic a b = usual a b
joint_of_family Shift a b = promoted a
joint_of_family Bits a b = usual a b
joint_of_family Comparison a b = usual a b
joint_of_family Logical a b = usual a b

abbrev pub joint_type : Binary → Ty → Ty → Ty
joint_type op a b = joint_of_family (family op) a b

-- the type of a result: that in which the operands are joined, or I32 for what is 1 or 0
abbrev pub result_of_family : Family → Ty → Ty
result_of_family Arithmetic t = t
result_of_family Shift t = t
result_of_family Bits t = t
result_of_family Comparison t = I32
result_of_family Logical t = I32

abbrev pub result_type : Binary → Ty → Ty
result_type op t = result_of_family (family op) t

-- the same of an operator on one operand of a promoted type
abbrev pub unary_type : Unary → Ty → Ty
unary_type Plus t = t
unary_type Minus t = t
unary_type Flip t = t
unary_type Not t = I32
