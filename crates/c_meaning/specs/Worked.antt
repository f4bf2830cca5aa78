-- Kernels and normal forms written as trees, each node at a place of its own, and what is known of them by computation.
use Rattle.std.specs.Prelude.{◌≡◌, ℕ, ◌+◌, List, [], ◌∷◌, ◌++◌, codes, replicate, pos, negsuc, ℤ, true, false, Option, Some, None}
use Rattle.el_base.specs.declared.ty.Ty.{Ty}
use Rattle.el_base.specs.declared.ty.Ty.TheVariants.{U8, I32, U32, I64}
use Rattle.el_base.specs.declared.span.Span.{Span}
use Rattle.c_ast.specs.declared.tree.Binary.{Binary}
use Rattle.c_ast.specs.declared.tree.Binary.TheVariants as op
use Rattle.c_ast.specs.declared.tree.Param.{Param}
use Rattle.c_ast.specs.declared.typed.ArrayOf.{ArrayOf}
use Rattle.c_ast.specs.declared.typed.Object.TheVariants as object
use Rattle.c_ast.specs.declared.typed.TypedTarget.{TypedTarget}
use Rattle.c_ast.specs.declared.typed.TypedExpr.{TypedExpr}
use Rattle.c_ast.specs.declared.typed.TypedExprKind.{TypedExprKind}
use Rattle.c_ast.specs.declared.typed.TypedExprKind.TheVariants as expr
use Rattle.c_ast.specs.declared.typed.TypedStmt.{TypedStmt}
use Rattle.c_ast.specs.declared.typed.TypedStmtKind.{TypedStmtKind}
use Rattle.c_ast.specs.declared.typed.TypedStmtKind.TheVariants as stmt
use Rattle.c_ast.specs.declared.typed.Typed.{Typed}
use Rattle.c_ast.specs.declared.normal.Normal.{Normal}
use Rattle.c_ast.specs.declared.normal.NormalStmt.{NormalStmt}
use Rattle.c_ast.specs.declared.normal.NormalStmtKind.{NormalStmtKind}
use Rattle.c_ast.specs.declared.normal.NormalStmtKind.TheVariants as normal
use Rattle.c_meaning.specs.declared.profile.Profile.{Profile}
use Rattle.c_meaning.specs.declared.profile.Profile.TheVariants.{Plain, Wrap}
use Rattle.c_meaning.specs.Stores.{Objects, Inputs}
use Rattle.c_meaning.specs.Statements.{first, Ends}
use Rattle.c_meaning.specs.Normals.{normal_objects}
use Rattle.c_meaning.specs.Counts.{NormalCosts}
use Rattle.c_meaning.specs.Quiet.{Quiet}
use Rattle.c_meaning.specs.Lawful.{LawfulExpr, LawfulStmt, LawfulNormalExpr, LawfulNormalStmt}

-- ---- trees

abbrev pub place : ℕ → Span
place n = record { start = n; end = n + 1; line = 1; column = n + 1 }

abbrev pub e_at : ℕ → Ty → TypedExprKind → TypedExpr
e_at n t kind = record { kind = kind; ty = t; at = place n }

abbrev pub number_at : ℕ → ℕ → TypedExpr
number_at n z = e_at n I32 (expr.Number z)

abbrev pub var_at : ℕ → ℕ → TypedExpr
var_at n v = e_at n I32 (expr.Var v)

abbrev pub two_at : ℕ → Binary → TypedExpr → TypedExpr → TypedExpr
two_at n o a b = e_at n I32 (expr.Binary o a b)

-- an element of the one array, of dimensions 4 and 4
abbrev pub element_of : ℕ → TypedExpr → TypedExpr → TypedExpr
element_of n i j = e_at n I32 (expr.Element 0 (i ∷ j ∷ []))

abbrev pub to_var : ℕ → ℕ → TypedTarget
to_var n v = record { to = object.Var v; at = place n; indices = [] }

abbrev pub to_element : ℕ → TypedExpr → TypedExpr → TypedTarget
to_element n i j = record { to = object.Array 0; at = place n; indices = i ∷ j ∷ [] }

abbrev pub s_at : ℕ → TypedStmtKind → TypedStmt
s_at n kind = record { kind = kind; at = place n }

abbrev pub params : List Param
params = record { name = codes "n"; at = place 1; ty = I32; dims = [] } ∷ record { name = codes "a"; at = place 2; ty = I32; dims = 4 ∷ 4 ∷ [] } ∷ []

abbrev pub arrays : List ArrayOf
arrays = record { name = codes "a"; ty = I32; dims = 4 ∷ 4 ∷ [] } ∷ []

-- void f(int32_t n, int32_t a[4][4]) { .. } or int32_t f(..), at place 0; besides n, which is variable 0, there are the locals 1 and 2
abbrev pub kernel_of : Option Ty → List TypedStmt → Typed
kernel_of r body = record { name = codes "f"; at = place 0; result = r; params = params; vars = I32 ∷ I32 ∷ I32 ∷ []; arrays = arrays; body = body }

abbrev pub zeros : ℕ → List ℤ
zeros n = replicate n (pos 0)

-- n, and zeros
abbrev pub given : ℤ → Inputs
given n = record { scalars = n ∷ []; arrays = zeros 16 ∷ [] }

abbrev pub greatest_number : ℤ
greatest_number = pos 2147483647

-- ---- the first undefined operation: n is the greatest number of its type, and the locals are unset

abbrev pub first_within : ℕ → List TypedStmt → Option Span
first_within t body = first (kernel_of None body) Plain (given greatest_number) t

abbrev pub first_in : TypedStmtKind → Option Span
first_in s = first_within 9 (s_at 3 s ∷ [])

-- n = e
abbrev pub first_of_value : TypedExpr → Option Span
first_of_value e = first_in (stmt.Assign (to_var 4 0) None e)

-- u + v: the left operand, then the right one, then the sum
abbrev pub LeftOperandFirst : Type 0
LeftOperandFirst = first_of_value (two_at 10 op.Add (var_at 11 1) (var_at 12 2)) ≡ Some (place 11)

abbrev pub RightOperandNext : Type 0
RightOperandNext = first_of_value (two_at 10 op.Add (var_at 11 0) (var_at 12 2)) ≡ Some (place 12)

abbrev pub OperatorLast : Type 0
OperatorLast = first_of_value (two_at 10 op.Add (var_at 11 0) (number_at 12 1)) ≡ Some (place 10)

-- a[9][u]: all indices before they are tested
abbrev pub IndicesFirst : Type 0
IndicesFirst = first_of_value (element_of 10 (number_at 11 9) (var_at 12 1)) ≡ Some (place 12)

-- a[u][9]
abbrev pub FirstIndexFirst : Type 0
FirstIndexFirst = first_of_value (element_of 10 (var_at 11 1) (var_at 12 2)) ≡ Some (place 11)

-- a[1][4]
abbrev pub ElementOutside : Type 0
ElementOutside = first_of_value (element_of 10 (number_at 11 1) (number_at 12 4)) ≡ Some (place 10)

-- a[9][u] = v
abbrev pub TargetIndicesFirst : Type 0
TargetIndicesFirst = first_in (stmt.Assign (to_element 10 (number_at 11 9) (var_at 12 1)) None (var_at 13 2)) ≡ Some (place 12)

-- a[9][0] = v: the indices are tested before the right side is evaluated
abbrev pub TargetBeforeValue : Type 0
TargetBeforeValue = first_in (stmt.Assign (to_element 10 (number_at 11 9) (number_at 12 0)) None (var_at 13 2)) ≡ Some (place 10)

-- a[3][0] = v
abbrev pub ValueAfterTarget : Type 0
ValueAfterTarget = first_in (stmt.Assign (to_element 10 (number_at 11 3) (number_at 12 0)) None (var_at 13 2)) ≡ Some (place 13)

-- u += v: the old value before the right side
abbrev pub OldValueFirst : Type 0
OldValueFirst = first_in (stmt.Assign (to_var 10 1) (Some op.Add) (var_at 11 2)) ≡ Some (place 10)

-- n += v
abbrev pub ValueAfterOld : Type 0
ValueAfterOld = first_in (stmt.Assign (to_var 10 0) (Some op.Add) (var_at 11 2)) ≡ Some (place 11)

-- n += 1
abbrev pub CompoundOperatorLast : Type 0
CompoundOperatorLast = first_in (stmt.Assign (to_var 10 0) (Some op.Add) (number_at 11 1)) ≡ Some (place 10)

-- a[9][u] += v
abbrev pub CompoundIndicesFirst : Type 0
CompoundIndicesFirst = first_in (stmt.Assign (to_element 10 (number_at 11 9) (var_at 12 1)) (Some op.Add) (var_at 13 2)) ≡ Some (place 12)

-- a[9][0] += v
abbrev pub CompoundTargetOutside : Type 0
CompoundTargetOutside = first_in (stmt.Assign (to_element 10 (number_at 11 9) (number_at 12 0)) (Some op.Add) (var_at 13 2)) ≡ Some (place 10)

-- n++ and u++
abbrev pub StepOverflows : Type 0
StepOverflows = first_in (stmt.Step (to_var 10 0) true) ≡ Some (place 10)

abbrev pub StepOfUnset : Type 0
StepOfUnset = first_in (stmt.Step (to_var 10 1) false) ≡ Some (place 10)

-- u && v, and 0 && v: the right side where it decides
abbrev pub LeftSideFirst : Type 0
LeftSideFirst = first_of_value (two_at 10 op.Both (var_at 11 1) (var_at 12 2)) ≡ Some (place 11)

abbrev pub RightSideUnneeded : Type 0
RightSideUnneeded = first_of_value (two_at 10 op.Both (number_at 11 0) (var_at 12 2)) ≡ None

-- n ? u : v
abbrev pub OneSideOfChoice : Type 0
OneSideOfChoice = first_of_value (e_at 10 I32 (expr.Choose (number_at 11 0) (var_at 12 1) (var_at 13 2))) ≡ Some (place 13)

-- int32_t f(..) { n = 0; } : the name of the kernel
abbrev pub EndOfKernel : Type 0
EndOfKernel = first (kernel_of (Some I32) (s_at 3 (stmt.Assign (to_var 4 0) None (number_at 5 0)) ∷ [])) Plain (given greatest_number) 9 ≡ Some (place 0)

-- a[n && 1][0] = 1 / 0 with 2 turns, which the block and the assignment take: undefined goes before the turns of the &&
abbrev pub UndefinedBeforeTurns : Type 0
UndefinedBeforeTurns =
    first_within 2 (s_at 3 (stmt.Assign (to_element 10 (two_at 11 op.Both (var_at 12 0) (number_at 13 1)) (number_at 14 0)) None (two_at 15 op.Div (number_at 16 1) (number_at 17 0))) ∷ []) ≡ Some (place 15)

-- n = 2; while (n) { if (1) int32_t u = n < 2 ? u : 1; n--; } : the part of the if is a block, so in the second round u is unset again
abbrev pub PartIsABlock : Type 0
PartIsABlock =
    first_within 40 (s_at 3 (stmt.Assign (to_var 4 0) None (number_at 5 2))
    ∷ s_at 6 (stmt.While (var_at 7 0) (s_at 8 (stmt.Block
    (s_at 9 (stmt.If (number_at 10 1) (s_at 11 (stmt.Declare 1 (Some (e_at 12 I32 (expr.Choose (two_at 13 op.Lt (var_at 14 0) (number_at 15 2)) (var_at 16 1) (number_at 17 1)))))) None)
    ∷ s_at 18 (stmt.Step (to_var 19 0) false) ∷ []))))
    ∷ []) ≡ Some (place 16)

-- while (1) { for (int32_t u = n ? u : 1; ; ) break; n = 1; } from n = 0: a for is a scope of its own, so in the second round u is unset again
abbrev pub FirstPartIsAScope : Type 0
FirstPartIsAScope =
    first (kernel_of None (s_at 3 (stmt.While (number_at 7 1) (s_at 8 (stmt.Block
    (s_at 9 (stmt.For (s_at 11 (stmt.Declare 1 (Some (e_at 12 I32 (expr.Choose (var_at 13 0) (var_at 14 1) (number_at 15 1))))) ∷ []) None None (s_at 16 stmt.Break))
    ∷ s_at 18 (stmt.Assign (to_var 19 0) None (number_at 20 1)) ∷ []))))
    ∷ [])) Plain (given (pos 0)) 40 ≡ Some (place 14)

-- ---- turns: a void kernel of one statement, with n = 1 and an array of zeros, takes three of them: two are those of its block and of the statement

abbrev pub takes_three : TypedStmtKind → List ℤ → Type 0
takes_three s elements = Ends (kernel_of None (s_at 3 s ∷ [])) Plain (given (pos 1)) (elements ∷ []) None 3

abbrev pub n_and_one : TypedExpr
n_and_one = two_at 11 op.Both (var_at 12 0) (number_at 13 1)

-- a[n && 1][0] = 1
abbrev pub TurnInATarget : Type 0
TurnInATarget = takes_three (stmt.Assign (to_element 10 n_and_one (number_at 14 0)) None (number_at 15 1)) (zeros 4 ++ pos 1 ∷ zeros 11)

-- n = 1 + (n && 1)
abbrev pub TurnInAnOperand : Type 0
TurnInAnOperand = takes_three (stmt.Assign (to_var 4 0) None (two_at 10 op.Add (number_at 14 1) n_and_one)) (zeros 16)

-- n = a[n && 1][0]
abbrev pub TurnInAnIndex : Type 0
TurnInAnIndex = takes_three (stmt.Assign (to_var 4 0) None (element_of 10 n_and_one (number_at 14 0))) (zeros 16)

-- do break; while (1);
abbrev pub NoConditionAfterBreak : Type 0
NoConditionAfterBreak = takes_three (stmt.DoWhile (s_at 10 stmt.Break) (number_at 11 1)) (zeros 16)

-- ---- compound assignments: the old value is converted to the joint type, the result to that of the target

abbrev pub gives_after : Ty → ℤ → Binary → Ty → ℕ → ℤ → Type 0
gives_after t old o u right z =
    Ends
    (record {
      name = codes "f";
      at = place 0;
      result = Some t;
      params = record { name = codes "n"; at = place 1; ty = t; dims = [] } ∷ [];
      vars = t ∷ [];
      arrays = [];
      body = s_at 2 (stmt.Assign (to_var 3 0) (Some o) (e_at 4 u (expr.Number right))) ∷ s_at 5 (stmt.Return (Some (e_at 6 t (expr.Var 0)))) ∷ [];
    })
    Plain (record { scalars = old ∷ []; arrays = [] }) [] (Some z) 3

-- int32_t n = -1; n /= 2u
abbrev pub OldValueIsConverted : Type 0
OldValueIsConverted = gives_after I32 (negsuc 0) op.Div U32 2 (pos 2147483647)

-- uint8_t n = 250; n += 10
abbrev pub ResultIsConverted : Type 0
ResultIsConverted = gives_after U8 (pos 250) op.Add I32 10 (pos 4)

-- uint8_t n = 255; n <<= 1, with a 1 of 64 bits: the shift is that of an int32_t
abbrev pub ShiftIsOfTheLeft : Type 0
ShiftIsOfTheLeft = gives_after U8 (pos 255) op.Shl I64 1 (pos 254)

-- ---- wrapping: n + 1 and -n << 1 of the greatest and the least number, and -2147483648 / -1, which stays undefined

abbrev pub wraps_to : TypedExpr → ℤ → ℤ → Type 0
wraps_to e n z = Ends (kernel_of (Some I32) (s_at 3 (stmt.Return (Some e)) ∷ [])) Wrap (given n) (zeros 16 ∷ []) (Some z) 2

abbrev pub SumWraps : Type 0
SumWraps = wraps_to (two_at 10 op.Add (var_at 11 0) (number_at 12 1)) greatest_number (negsuc 2147483647)

abbrev pub NegativeShiftWraps : Type 0
NegativeShiftWraps = wraps_to (two_at 10 op.Shl (var_at 11 0) (number_at 12 1)) (negsuc 2147483646) (pos 2)

abbrev pub QuotientStaysUndefined : Type 0
QuotientStaysUndefined =
    first (kernel_of (Some I32) (s_at 3 (stmt.Return (Some (two_at 10 op.Div (var_at 11 0) (two_at 12 op.Sub (number_at 13 0) (number_at 14 1))))) ∷ [])) Wrap (given (negsuc 2147483647)) 9 ≡ Some (place 10)

-- ---- normal forms

abbrev pub n_at : ℕ → NormalStmtKind → NormalStmt
n_at n kind = record { kind = kind; at = place n }

abbrev pub form_of : List NormalStmt → Normal
form_of body = record { name = codes "f"; at = place 0; result = None; params = params; vars = I32 ∷ I32 ∷ I32 ∷ []; arrays = arrays; body = body }

-- the jumps and the price of a run on n = 1
abbrev pub costs : NormalStmtKind → ℕ → ℕ → Type 0
costs s jumps price = NormalCosts (form_of (n_at 3 s ∷ [])) Plain (given (pos 1)) jumps price

abbrev pub sets : ℕ → TypedExpr → NormalStmtKind
sets v e = normal.Assign (to_var 4 v) e

abbrev pub empty : NormalStmt
empty = n_at 5 normal.Empty

-- u = e: 2, and the price of e
abbrev pub value_costs : TypedExpr → ℕ → Type 0
value_costs e price = costs (sets 1 e) 0 price

-- a node and a number each, and 1 more for the shift
abbrev pub ShiftCosts : Type 0
ShiftCosts = value_costs (two_at 10 op.Shl (var_at 11 0) (number_at 12 1)) 6

abbrev pub RightShiftCosts : Type 0
RightShiftCosts = value_costs (two_at 10 op.Shr (var_at 11 0) (number_at 12 1)) 6

abbrev pub SumCosts : Type 0
SumCosts = value_costs (two_at 10 op.Add (var_at 11 0) (number_at 12 1)) 5

-- 2 more for each side
abbrev pub BothCosts : Type 0
BothCosts = value_costs (two_at 10 op.Both (var_at 11 0) (number_at 12 1)) 9

abbrev pub EitherCosts : Type 0
EitherCosts = value_costs (two_at 10 op.Either (var_at 11 0) (number_at 12 1)) 9

-- 2 more for the first part
abbrev pub ChoiceCosts : Type 0
ChoiceCosts = value_costs (e_at 10 I32 (expr.Choose (var_at 11 0) (number_at 12 1) (number_at 13 2))) 8

-- an implied cast is a node
abbrev pub CastCosts : Type 0
CastCosts = value_costs (e_at 10 I32 (expr.Cast true (var_at 11 0))) 4

-- 4 more for each index: u = a[1][2] and a[1][2] = n
abbrev pub ElementCosts : Type 0
ElementCosts = value_costs (element_of 10 (number_at 11 1) (number_at 12 2)) 13

abbrev pub TargetCosts : Type 0
TargetCosts = costs (normal.Assign (to_element 10 (number_at 11 1) (number_at 12 2)) (var_at 13 0)) 0 13

-- int32_t u = n;
abbrev pub DeclarationCosts : Type 0
DeclarationCosts = costs (normal.Declare 1 (Some (var_at 10 0))) 0 1

-- if (u = 1; u) ; : 3 before the condition, 1 for it and 2 more, and 2 jumps
abbrev pub IfCosts : Type 0
IfCosts = costs (normal.If (n_at 6 (sets 1 (number_at 7 1)) ∷ []) (var_at 10 1) empty None) 2 6

-- for (u = 0; u < 2; u = u + 1) ; : 3; three conditions of 3 and 2 more, with 2 jumps each; two steps of 5 with a jump each
abbrev pub ForCosts : Type 0
ForCosts =
    costs (normal.For (n_at 6 (sets 1 (number_at 7 0)) ∷ []) [] (Some (two_at 10 op.Lt (var_at 11 1) (number_at 12 2))) (Some (n_at 13 (sets 1 (two_at 14 op.Add (var_at 15 1) (number_at 16 1))))) empty) 8 28

-- do ; while (0); : a jump for the do
abbrev pub DoCosts : Type 0
DoCosts = costs (normal.DoWhile empty [] (number_at 10 0)) 3 3

-- while (1) break;
abbrev pub BreakCosts : Type 0
BreakCosts = costs (normal.While [] (number_at 10 1) (n_at 6 normal.Break)) 3 3

-- do continue; while (0);
abbrev pub ContinueCosts : Type 0
ContinueCosts = costs (normal.DoWhile (n_at 6 normal.Continue) [] (number_at 10 0)) 4 3

-- for (;;) break; : an absent condition has no node
abbrev pub AbsentConditionCosts : Type 0
AbsentConditionCosts = costs (normal.For [] [] None None (n_at 6 normal.Break)) 3 2

-- return;
abbrev pub ReturnCosts : Type 0
ReturnCosts = costs (normal.Return None) 1 0

-- ---- what is not lawful

abbrev pub kept : Profile → Objects
kept p = normal_objects p (form_of [])

-- a number under two casts that are marked as implied
abbrev pub StackedCasts : Type 0
StackedCasts = (p : Profile) → LawfulExpr (kept p) (e_at 10 I32 (expr.Cast true (e_at 11 I32 (expr.Cast true (number_at 12 1))))) → ⊥

-- n && a[1][2], n ? a[1][2] : 0 and n ? 0 : a[1][2]; a[1][2] ? n : 0 is lawful
abbrev pub ReadInASide : Type 0
ReadInASide = (p : Profile) → LawfulNormalExpr (kept p) (two_at 10 op.Both (var_at 11 0) (element_of 12 (number_at 13 1) (number_at 14 2))) → ⊥

abbrev pub ReadInASecondPart : Type 0
ReadInASecondPart = (p : Profile) → LawfulNormalExpr (kept p) (e_at 10 I32 (expr.Choose (var_at 11 0) (element_of 12 (number_at 13 1) (number_at 14 2)) (number_at 15 0))) → ⊥

abbrev pub ReadInAThirdPart : Type 0
ReadInAThirdPart = (p : Profile) → LawfulNormalExpr (kept p) (e_at 10 I32 (expr.Choose (var_at 11 0) (number_at 15 0) (element_of 12 (number_at 13 1) (number_at 14 2)))) → ⊥

abbrev pub ReadInAFirstPart : Type 0
ReadInAFirstPart = (p : Profile) → LawfulNormalExpr (kept p) (e_at 10 I32 (expr.Choose (element_of 12 (number_at 13 1) (number_at 14 2)) (var_at 11 0) (number_at 15 0)))

-- for (; u = 1;; ) ;
abbrev pub BeforeNothing : Type 0
BeforeNothing = (p : Profile) → LawfulNormalStmt (kept p) None false (normal.For [] (n_at 6 (sets 1 (number_at 7 1)) ∷ []) None None empty) → ⊥

-- while (return; n) ; and do ; while (return; n); and for (; return; n; ) ;
abbrev pub ReturnBefore : Type 0
ReturnBefore = Quiet true (normal.While (n_at 6 (normal.Return None) ∷ []) (var_at 10 0) empty) → ⊥

abbrev pub ReturnBeforeDo : Type 0
ReturnBeforeDo = Quiet true (normal.DoWhile empty (n_at 6 (normal.Return None) ∷ []) (var_at 10 0)) → ⊥

abbrev pub ReturnBeforeFor : Type 0
ReturnBeforeFor = Quiet true (normal.For [] (n_at 6 (normal.Return None) ∷ []) (Some (var_at 10 0)) None empty) → ⊥

-- break; in no loop, of a typed tree and of a normal form
abbrev pub BreakOutside : Type 0
BreakOutside = (p : Profile) → LawfulStmt (kept p) None false stmt.Break → ⊥

abbrev pub NormalBreakOutside : Type 0
NormalBreakOutside = (p : Profile) → LawfulNormalStmt (kept p) None false normal.Break → ⊥
