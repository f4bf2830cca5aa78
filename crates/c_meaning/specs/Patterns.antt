-- Operators on patterns: which operations of the table give an operator's result, and that they give the pattern of its number.
use Rattle.std.specs.Prelude.{◌≡◌, ℕ, ℤ, Option, Some, None}
use Rattle.el_base.specs.declared.ty.Ty.{Ty}
use Rattle.el_base.specs.declared.ty.Ty.TheVariants.{I8, U8, I16, U16, I32, U32, I64, U64}
use Rattle.el_base.specs.declared.operation.Op1.{Op1}
use Rattle.el_base.specs.declared.operation.Op1.TheVariants.{Neg32, Neg64, Not32, Not64, Zero32, Zero64, S8to16, S8to32, S8to64, S16to32, S16to64, S32to64, U8to16, U8to32, U8to64, U16to32, U16to64, U32to64, Cut16to8, Cut32to8, Cut32to16, Cut64to8, Cut64to16, Cut64to32}
use Rattle.el_base.specs.declared.operation.Op2.TheVariants.{Add32, Add64, Sub32, Sub64, Mul32, Mul64, And32, And64, Or32, Or64, Xor32, Xor64, Shl32, Shl64, Shru32, Shru64, Shrs32, Shrs64, Divu32, Divu64, Remu32, Remu64, Divs32, Divs64, Rems32, Rems64, Eq32, Eq64, Ne32, Ne64, Ltu32, Ltu64, Leu32, Leu64, Lts32, Lts64, Les32, Les64}
use Rattle.el_base.specs.Numbers.{pattern, IsInRange}
use Rattle.c_ast.specs.declared.tree.Unary.{Unary}
use Rattle.c_ast.specs.declared.tree.Unary.TheVariants.{Plus, Minus, Flip, Not}
use Rattle.c_ast.specs.declared.tree.Binary.{Binary}
use Rattle.c_ast.specs.declared.tree.Binary.TheVariants.{Mul, Div, Rem, Add, Sub, Shl, Shr, Lt, Gt, Le, Ge, Eq, Ne, And, Xor, Or, Both, Either}
use Rattle.word_ops.specs.Operations.{op1_result, op2_result}
use Rattle.c_ast.specs.ResultTypes.{result_type, unary_type}
use Rattle.c_meaning.specs.declared.profile.Profile.{Profile}
use Rattle.c_meaning.specs.Types.{conv}
use Rattle.c_meaning.specs.Operators.{unary_value, binary_value}

-- one of four for the promoted types I32, U32, I64, U64; the others are promoted to I32
abbrev pub by_type : {A : Type 0} → Ty → A → A → A → A → A
by_type U32 a b c d = b
by_type I64 a b c d = c
by_type U64 a b c d = d
by_type t a b c d = a

-- an operator on the patterns of operands of a promoted type; > and >= are < and <= with the operands exchanged; && and || are none
abbrev pub on_patterns : Binary → Ty → ℕ → ℕ → ℕ
on_patterns Mul t a b = op2_result (by_type t Mul32 Mul32 Mul64 Mul64) a b
on_patterns Div t a b = op2_result (by_type t Divs32 Divu32 Divs64 Divu64) a b
on_patterns Rem t a b = op2_result (by_type t Rems32 Remu32 Rems64 Remu64) a b
on_patterns Add t a b = op2_result (by_type t Add32 Add32 Add64 Add64) a b
on_patterns Sub t a b = op2_result (by_type t Sub32 Sub32 Sub64 Sub64) a b
on_patterns Shl t a b = op2_result (by_type t Shl32 Shl32 Shl64 Shl64) a b
on_patterns Shr t a b = op2_result (by_type t Shrs32 Shru32 Shrs64 Shru64) a b
on_patterns Lt t a b = op2_result (by_type t Lts32 Ltu32 Lts64 Ltu64) a b
on_patterns Gt t a b = op2_result (by_type t Lts32 Ltu32 Lts64 Ltu64) b a
on_patterns Le t a b = op2_result (by_type t Les32 Leu32 Les64 Leu64) a b
on_patterns Ge t a b = op2_result (by_type t Les32 Leu32 Les64 Leu64) b a
on_patterns Eq t a b = op2_result (by_type t Eq32 Eq32 Eq64 Eq64) a b
on_patterns Ne t a b = op2_result (by_type t Ne32 Ne32 Ne64 Ne64) a b
on_patterns And t a b = op2_result (by_type t And32 And32 And64 And64) a b
on_patterns Xor t a b = op2_result (by_type t Xor32 Xor32 Xor64 Xor64) a b
on_patterns Or t a b = op2_result (by_type t Or32 Or32 Or64 Or64) a b
on_patterns Both t a b = 0
on_patterns Either t a b = 0

abbrev pub on_pattern : Unary → Ty → ℕ → ℕ
on_pattern Plus t a = a
on_pattern Minus t a = op1_result (by_type t Neg32 Neg32 Neg64 Neg64) a
on_pattern Flip t a = op1_result (by_type t Not32 Not32 Not64 Not64) a
on_pattern Not t a = op1_result (by_type t Zero32 Zero32 Zero64 Zero64) a

-- the operation that converts from one type to another; None where both have one width, and the pattern stays
abbrev pub conversion_op : Ty → Ty → Option Op1
conversion_op I8 I8 = None
conversion_op I8 U8 = None
conversion_op I8 I16 = Some S8to16
conversion_op I8 U16 = Some S8to16
conversion_op I8 I32 = Some S8to32
conversion_op I8 U32 = Some S8to32
conversion_op I8 I64 = Some S8to64
conversion_op I8 U64 = Some S8to64
conversion_op U8 I8 = None
conversion_op U8 U8 = None
conversion_op U8 I16 = Some U8to16
conversion_op U8 U16 = Some U8to16
conversion_op U8 I32 = Some U8to32
conversion_op U8 U32 = Some U8to32
conversion_op U8 I64 = Some U8to64
conversion_op U8 U64 = Some U8to64
conversion_op I16 I8 = Some Cut16to8
conversion_op I16 U8 = Some Cut16to8
conversion_op I16 I16 = None
conversion_op I16 U16 = None
conversion_op I16 I32 = Some S16to32
conversion_op I16 U32 = Some S16to32
conversion_op I16 I64 = Some S16to64
conversion_op I16 U64 = Some S16to64
conversion_op U16 I8 = Some Cut16to8
conversion_op U16 U8 = Some Cut16to8
conversion_op U16 I16 = None
conversion_op U16 U16 = None
conversion_op U16 I32 = Some U16to32
conversion_op U16 U32 = Some U16to32
conversion_op U16 I64 = Some U16to64
conversion_op U16 U64 = Some U16to64
conversion_op I32 I8 = Some Cut32to8
conversion_op I32 U8 = Some Cut32to8
conversion_op I32 I16 = Some Cut32to16
conversion_op I32 U16 = Some Cut32to16
conversion_op I32 I32 = None
conversion_op I32 U32 = None
conversion_op I32 I64 = Some S32to64
conversion_op I32 U64 = Some S32to64
conversion_op U32 I8 = Some Cut32to8
conversion_op U32 U8 = Some Cut32to8
conversion_op U32 I16 = Some Cut32to16
conversion_op U32 U16 = Some Cut32to16
conversion_op U32 I32 = None
conversion_op U32 U32 = None
conversion_op U32 I64 = Some U32to64
conversion_op U32 U64 = Some U32to64
conversion_op I64 I8 = Some Cut64to8
conversion_op I64 U8 = Some Cut64to8
conversion_op I64 I16 = Some Cut64to16
conversion_op I64 U16 = Some Cut64to16
conversion_op I64 I32 = Some Cut64to32
conversion_op I64 U32 = Some Cut64to32
conversion_op I64 I64 = None
conversion_op I64 U64 = None
conversion_op U64 I8 = Some Cut64to8
conversion_op U64 U8 = Some Cut64to8
conversion_op U64 I16 = Some Cut64to16
conversion_op U64 U16 = Some Cut64to16
conversion_op U64 I32 = Some Cut64to32
conversion_op U64 U32 = Some Cut64to32
conversion_op U64 I64 = None
conversion_op U64 U64 = None

abbrev pub converted_by : Option Op1 → ℕ → ℕ
converted_by None a = a
converted_by (Some op) a = op1_result op a

-- ---- what holds

-- under either profile, where an operator is defined on two numbers of a type, its operation gives the pattern of the result for their patterns
abbrev pub KeepsPatterns : Binary → Ty → Type 0
KeepsPatterns op t = (p : Profile) (x y z : ℤ) → IsInRange t x → IsInRange t y → binary_value p op t x y ≡ Some z → on_patterns op t (pattern t x) (pattern t y) ≡ pattern (result_type op t) z

-- the same of a shift, for every amount for which it is defined: the amount need not be a number of that type
abbrev pub ShiftKeepsPatterns : Binary → Ty → Type 0
ShiftKeepsPatterns op t = (p : Profile) (x y z : ℤ) → IsInRange t x → binary_value p op t x y ≡ Some z → on_patterns op t (pattern t x) (pattern t y) ≡ pattern t z

abbrev pub KeepsPattern : Unary → Ty → Type 0
KeepsPattern op t = (p : Profile) (x z : ℤ) → IsInRange t x → unary_value p op t x ≡ Some z → on_pattern op t (pattern t x) ≡ pattern (unary_type op t) z

abbrev pub ConvertsPattern : Ty → Ty → Type 0
ConvertsPattern s t = (x : ℤ) → IsInRange s x → converted_by (conversion_op s t) (pattern s x) ≡ pattern t (conv t x)
