-- Which mark or reserved word is which operator or type.
use Rattle.std.specs.Prelude.{ℕ, Bool, true, false, Option, Some, None}
use Rattle.el_base.specs.declared.ty.Ty.{Ty}
use Rattle.el_base.specs.declared.ty.Ty.TheVariants.{I8, U8, I16, U16, I32, U32, I64, U64}
use Rattle.c_ast.specs.declared.key.Key.{Key}
use Rattle.c_ast.specs.declared.key.Key.TheVariants as key
use Rattle.c_ast.specs.declared.mark.Mark.{Mark}
use Rattle.c_ast.specs.declared.mark.Mark.TheVariants as mark
use Rattle.c_ast.specs.declared.tree.Unary.{Unary}
use Rattle.c_ast.specs.declared.tree.Unary.TheVariants as unary
use Rattle.c_ast.specs.declared.tree.Binary.{Binary}
use Rattle.c_ast.specs.declared.tree.Binary.TheVariants as binary

-- the binary operator of a mark, with its level
abbrev pub operator_of : Mark → Option (Binary × ℕ)
operator_of mark.OrOr = Some (binary.Either, 1)
operator_of mark.AndAnd = Some (binary.Both, 2)
operator_of mark.Bar = Some (binary.Or, 3)
operator_of mark.Caret = Some (binary.Xor, 4)
operator_of mark.Ampersand = Some (binary.And, 5)
operator_of mark.EqualEqual = Some (binary.Eq, 6)
operator_of mark.NotEqual = Some (binary.Ne, 6)
operator_of mark.Less = Some (binary.Lt, 7)
operator_of mark.Greater = Some (binary.Gt, 7)
operator_of mark.LessEqual = Some (binary.Le, 7)
operator_of mark.GreaterEqual = Some (binary.Ge, 7)
operator_of mark.Shl = Some (binary.Shl, 8)
operator_of mark.Shr = Some (binary.Shr, 8)
operator_of mark.Plus = Some (binary.Add, 9)
operator_of mark.Minus = Some (binary.Sub, 9)
operator_of mark.Star = Some (binary.Mul, 10)
operator_of mark.Slash = Some (binary.Div, 10)
operator_of mark.Percent = Some (binary.Rem, 10)
operator_of m = None

abbrev pub sign_of : Mark → Option Unary
sign_of mark.Plus = Some unary.Plus
sign_of mark.Minus = Some unary.Minus
sign_of mark.Tilde = Some unary.Flip
sign_of mark.Bang = Some unary.Not
sign_of m = None

-- what an assignment by a mark does besides: the operator of a compound one
abbrev pub assigning_of : Mark → Option (Option Binary)
assigning_of mark.Assign = Some None
assigning_of mark.MulAssign = Some (Some binary.Mul)
assigning_of mark.DivAssign = Some (Some binary.Div)
assigning_of mark.RemAssign = Some (Some binary.Rem)
assigning_of mark.AddAssign = Some (Some binary.Add)
assigning_of mark.SubAssign = Some (Some binary.Sub)
assigning_of mark.ShlAssign = Some (Some binary.Shl)
assigning_of mark.ShrAssign = Some (Some binary.Shr)
assigning_of mark.AndAssign = Some (Some binary.And)
assigning_of mark.XorAssign = Some (Some binary.Xor)
assigning_of mark.OrAssign = Some (Some binary.Or)
assigning_of m = None

-- whether a step by a mark goes up
abbrev pub step_of : Mark → Option Bool
step_of mark.Increment = Some true
step_of mark.Decrement = Some false
step_of m = None

-- the type that one reserved word names by itself
abbrev pub plain_type : Key → Option Ty
plain_type key.Int8 = Some I8
plain_type key.Int16 = Some I16
plain_type key.Int32 = Some I32
plain_type key.Int64 = Some I64
plain_type key.Uint8 = Some U8
plain_type key.Uint16 = Some U16
plain_type key.Uint32 = Some U32
plain_type key.Uint64 = Some U64
plain_type key.Int = Some I32
plain_type key.Signed = Some I32
plain_type key.Unsigned = Some U32
plain_type k = None

-- an int may follow the word of a type
abbrev pub takes_int : Key → Bool
takes_int key.Signed = true
takes_int key.Unsigned = true
takes_int k = false
