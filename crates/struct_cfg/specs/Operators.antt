-- The steps of operators, conversions, conditions and places, on values that are there.
-- && and || are steps on both sides, at most five: their operations are total, so that a side that is not needed does no harm.
use Rattle.std.specs.Prelude.{ℕ, List, [], ◌∷◌, Bool, true, false, ◌&&◌, Option, Some, None}
use Rattle.el_base.specs.declared.ty.Ty.{Ty}
use Rattle.el_base.specs.declared.ty.Ty.TheVariants.{I8, U8, I16, U16, I32, U32, I64, U64}
use Rattle.el_base.specs.declared.operation.Op1.{Op1}
use Rattle.el_base.specs.declared.operation.Op1.TheVariants.{Neg32, Neg64, Not32, Not64, Zero32, Zero64, U8to32, U16to32}
use Rattle.el_base.specs.declared.operation.Op2.TheVariants.{Add32, Add64, Sub32, Sub64, Mul32, Mul64, And32, And64, Or32, Or64, Xor32, Xor64, Shl32, Shl64, Shru32, Shru64, Shrs32, Shrs64, Divu32, Divu64, Remu32, Remu64, Divs32, Divs64, Rems32, Rems64, Eq32, Eq64, Ne32, Ne64, Ltu32, Ltu64, Leu32, Leu64, Lts32, Lts64, Les32, Les64}
use Rattle.c_ast.specs.declared.tree.Unary.{Unary}
use Rattle.c_ast.specs.declared.tree.Unary.TheVariants.{Plus, Minus, Flip, Not}
use Rattle.c_ast.specs.declared.tree.Binary.{Binary}
use Rattle.c_ast.specs.declared.tree.Binary.TheVariants.{Mul, Div, Rem, Add, Sub, Shl, Shr, Lt, Gt, Le, Ge, Eq, Ne, And, Xor, Or, Both, Either}
use Rattle.ir.specs.declared.instr.Instr.TheVariants.{Const, One, Two, Select}
use Rattle.c_meaning.specs.Patterns.{by_type, conversion_op}
use Rattle.struct_cfg.specs.Layings.{Laying, no_step, one_step, after, applied, Piece}

-- ---- conversions and operators on one operand

abbrev pub converted : Ty → Ty → ℕ → Laying
converted s t v = applied (conversion_op s t) v

-- the operation of an operator on one operand of a promoted type
abbrev pub unary_op : Unary → Ty → Option Op1
unary_op Plus t = None
unary_op Minus t = Some (by_type t Neg32 Neg32 Neg64 Neg64)
unary_op Flip t = Some (by_type t Not32 Not32 Not64 Not64)
unary_op Not t = Some (by_type t Zero32 Zero32 Zero64 Zero64)

-- ---- truth

-- a value of 32 bits that is 0 exactly where the value is
abbrev pub flag : Ty → ℕ → Laying
flag I8 v = one_step (One U8to32 v)
flag U8 v = one_step (One U8to32 v)
flag I16 v = one_step (One U16to32 v)
flag U16 v = one_step (One U16to32 v)
flag I32 v = no_step v
flag U32 v = no_step v
flag I64 v = after (one_step (One Zero64 v)) (λ z. one_step (One Zero32 z))
flag U64 v = after (one_step (One Zero64 v)) (λ z. one_step (One Zero32 z))

-- 1 where the value is 0, else 0, in 32 bits
abbrev pub zero_test : Ty → ℕ → Laying
zero_test I8 v = after (one_step (One U8to32 v)) (λ f. one_step (One Zero32 f))
zero_test U8 v = after (one_step (One U8to32 v)) (λ f. one_step (One Zero32 f))
zero_test I16 v = after (one_step (One U16to32 v)) (λ f. one_step (One Zero32 f))
zero_test U16 v = after (one_step (One U16to32 v)) (λ f. one_step (One Zero32 f))
zero_test I32 v = one_step (One Zero32 v)
zero_test U32 v = one_step (One Zero32 v)
zero_test I64 v = one_step (One Zero64 v)
zero_test U64 v = one_step (One Zero64 v)

-- a type of less than 32 bits
abbrev pub is_narrow : Ty → Bool
is_narrow I8 = true
is_narrow U8 = true
is_narrow I16 = true
is_narrow U16 = true
is_narrow I32 = false
is_narrow U32 = false
is_narrow I64 = false
is_narrow U64 = false

-- two tests for zero make a truth value of 32 bits
abbrev pub truth_of : ℕ → Laying
truth_of v = after (one_step (One Zero32 v)) (λ z. one_step (One Zero32 z))

-- the selection of the first where it is not 0, else the second; and the other way round
abbrev pub first_else : ℕ → ℕ → Laying
first_else f g = one_step (Select 32 f f g)

abbrev pub first_then : ℕ → ℕ → Laying
first_then f g = one_step (Select 32 f g f)

-- a && b: flags are taken where both sides are narrow, and else tests for zero
abbrev pub both_laid : Bool → Ty → Ty → ℕ → ℕ → Laying
both_laid true t u a b = after (flag t a) (λ f. after (flag u b) (λ g. after (first_then f g) truth_of))
both_laid false t u a b = after (zero_test t a) (λ f. after (zero_test u b) (λ g. after (first_else f g) (λ s. one_step (One Zero32 s))))

-- a || b
abbrev pub either_laid : Bool → Ty → Ty → ℕ → ℕ → Laying
either_laid true t u a b = after (flag t a) (λ f. after (flag u b) (λ g. after (first_else f g) truth_of))
either_laid false t u a b = after (zero_test t a) (λ f. after (zero_test u b) (λ g. after (first_then f g) (λ s. one_step (One Zero32 s))))

-- ---- operators on two operands, of types t and u

-- the amount of a shift is converted to the type of what is shifted; > and >= are < and <= with the operands exchanged
abbrev pub joined : Binary → Ty → Ty → ℕ → ℕ → Laying
joined Mul t u a b = one_step (Two (by_type t Mul32 Mul32 Mul64 Mul64) a b)
joined Div t u a b = one_step (Two (by_type t Divs32 Divu32 Divs64 Divu64) a b)
joined Rem t u a b = one_step (Two (by_type t Rems32 Remu32 Rems64 Remu64) a b)
joined Add t u a b = one_step (Two (by_type t Add32 Add32 Add64 Add64) a b)
joined Sub t u a b = one_step (Two (by_type t Sub32 Sub32 Sub64 Sub64) a b)
joined Shl t u a b = after (converted u t b) (λ c. one_step (Two (by_type t Shl32 Shl32 Shl64 Shl64) a c))
joined Shr t u a b = after (converted u t b) (λ c. one_step (Two (by_type t Shrs32 Shru32 Shrs64 Shru64) a c))
joined Lt t u a b = one_step (Two (by_type t Lts32 Ltu32 Lts64 Ltu64) a b)
joined Gt t u a b = one_step (Two (by_type t Lts32 Ltu32 Lts64 Ltu64) b a)
joined Le t u a b = one_step (Two (by_type t Les32 Leu32 Les64 Leu64) a b)
joined Ge t u a b = one_step (Two (by_type t Les32 Leu32 Les64 Leu64) b a)
joined Eq t u a b = one_step (Two (by_type t Eq32 Eq32 Eq64 Eq64) a b)
joined Ne t u a b = one_step (Two (by_type t Ne32 Ne32 Ne64 Ne64) a b)
joined And t u a b = one_step (Two (by_type t And32 And32 And64 And64) a b)
joined Xor t u a b = one_step (Two (by_type t Xor32 Xor32 Xor64 Xor64) a b)
joined Or t u a b = one_step (Two (by_type t Or32 Or32 Or64 Or64) a b)
joined Both t u a b = both_laid (is_narrow t && is_narrow u) t u a b
joined Either t u a b = either_laid (is_narrow t && is_narrow u) t u a b

-- ---- the place of an element in row-major order, in 64 bits

-- an index, converted
abbrev pub index_laid : Piece → Laying
index_laid p = after p.laying (λ v. converted p.ty I64 v)

-- the place so far times the length of the next dimension, and the next index
abbrev pub next_place : ℕ → ℕ → Piece → Laying
next_place at d p = after (index_laid p) (λ j. after (one_step (Const 64 d)) (λ c. after (one_step (Two Mul64 at c)) (λ m. one_step (Two Add64 m j))))

abbrev pub further_places : ℕ → List ℕ → List Piece → Laying
further_places at [] ps = no_step at
further_places at (d ∷ ds) [] = no_step at
further_places at (d ∷ ds) (p ∷ ps) = after (next_place at d p) (λ v. further_places v ds ps)

-- by the lengths of all dimensions, and one index for each
abbrev pub place_laid : List ℕ → List Piece → Laying
place_laid [] ps = no_step 0
place_laid (d ∷ ds) [] = no_step 0
place_laid (d ∷ ds) (p ∷ ps) = after (index_laid p) (λ v. further_places v ds ps)
