-- Programs with calls written as trees, and what the definitions give for each.
use Rattle.std.specs.Prelude.{◌≡◌, ℕ, List, [], ◌∷◌, codes, replicate, pos, true, false, Some, None}
use Rattle.el_base.specs.declared.ty.Ty.TheVariants.{I32}
use Rattle.c_ast.specs.declared.tree.Binary.TheVariants as op
use Rattle.c_ast.specs.declared.tree.Param.{Param}
use Rattle.c_ast.specs.declared.typed.Object.TheVariants as object
use Rattle.c_ast.specs.declared.typed.Typed.{Typed}
use Rattle.c_ast.specs.declared.typed.TypedStmtKind.TheVariants as stmt
use Rattle.c_ast.specs.declared.program.ProgExpr.{ProgExpr}
use Rattle.c_ast.specs.declared.program.ProgExprKind.{ProgExprKind}
use Rattle.c_ast.specs.declared.program.ProgExprKind.TheVariants as tree
use Rattle.c_ast.specs.declared.program.ProgStmt.{ProgStmt}
use Rattle.c_ast.specs.declared.program.ProgStmtKind.{ProgStmtKind}
use Rattle.c_ast.specs.declared.program.ProgStmtKind.TheVariants as act
use Rattle.c_ast.specs.declared.program.TypedHelper.{TypedHelper}
use Rattle.c_ast.specs.declared.program.ProgTree.{ProgTree}
use Rattle.c_ast.specs.declared.program.TypedProgram.{TypedProgram}
use Rattle.c_meaning.specs.declared.profile.Profile.TheVariants.{Plain}
use Rattle.c_meaning.specs.Stores.{Objects, Inputs}
use Rattle.c_meaning.specs.Runs.{undefined, out_of_turns}
use Rattle.c_meaning.specs.Worked.{place, var_at, two_at, to_var, s_at}
use Rattle.c_calls.specs.Meanings.{Calls, program_run}
use Rattle.c_calls.specs.Inlined.{Inlined}
use Rattle.c_calls.specs.Counts.{inlined_nodes}
use Rattle.c_calls.specs.Lawful.{LawfulProgram, LawfulCallExpr, InScope, signature_of}

-- ---- trees

abbrev pub p_at : ℕ → ProgExprKind → ProgExpr
p_at n kind = record { kind = kind; ty = I32; at = place n }

abbrev pub a_var : ℕ → ℕ → ProgExpr
a_var n v = p_at n (tree.Var v)

abbrev pub a_call : ℕ → ℕ → ProgExpr → ProgExpr
a_call n h e = p_at n (tree.Call h (e ∷ []))

abbrev pub a_stmt : ℕ → ProgStmtKind → ProgStmt
a_stmt n kind = record { kind = kind; at = place n }

abbrev pub a_param : Param
a_param = record { name = codes "p"; at = place 0; ty = I32; dims = [] }

-- of one parameter, which is variable 0, and one local, which is variable 1
abbrev pub a_helper : List ProgStmt → ProgExpr → TypedHelper
a_helper body value = record { name = codes "g"; at = place 0; result = I32; params = a_param ∷ []; vars = I32 ∷ I32 ∷ []; body = body; value = value }

abbrev pub a_kernel : List ProgStmt → ProgTree
a_kernel body = record { name = codes "f"; at = place 1; result = Some I32; params = a_param ∷ []; vars = I32 ∷ []; arrays = []; body = body }

abbrev pub a_program : TypedHelper → List ProgStmt → TypedProgram
a_program h body = record { helpers = h ∷ []; kernel = a_kernel body }

abbrev pub given : ℕ → Inputs
given z = record { scalars = pos z ∷ []; arrays = [] }

-- ---- calls one inside the other

-- static int32_t g(int32_t p) { int32_t q = p + p; return q; }   int32_t f(int32_t p) { return g(g(p)) + p; }
abbrev pub twice_twice : TypedProgram
twice_twice = a_program (a_helper (a_stmt 10 (act.Declare 1 (Some (p_at 11 (tree.Binary op.Add (a_var 12 0) (a_var 13 0))))) ∷ []) (a_var 14 1))
    (a_stmt 20 (act.Return (Some (p_at 21 (tree.Binary op.Add (a_call 22 0 (a_call 23 0 (a_var 24 0))) (a_var 25 0))))) ∷ [])

abbrev pub EndsWithFifteen : Type 0
EndsWithFifteen = Calls twice_twice Plain (given 3) [] (Some (pos 15))

-- the block of the inner call stands before that of the outer one, each with variables of its own: 1 to 3 and 4 to 6
abbrev pub twice_tree : Typed
twice_tree = record {
  name = codes "f";
  at = place 1;
  result = Some I32;
  params = a_param ∷ [];
  vars = replicate 7 I32;
  arrays = [];
  body = s_at 20 (stmt.Block (
      s_at 23 (stmt.Block (s_at 23 (stmt.Declare 1 (Some (var_at 24 0))) ∷ s_at 10 (stmt.Declare 2 (Some (two_at 11 op.Add (var_at 12 1) (var_at 13 1)))) ∷ s_at 23 (stmt.Assign (to_var 23 3) None (var_at 14 2)) ∷ []))
      ∷ s_at 22 (stmt.Block (s_at 22 (stmt.Declare 4 (Some (var_at 23 3))) ∷ s_at 10 (stmt.Declare 5 (Some (two_at 11 op.Add (var_at 12 4) (var_at 13 4)))) ∷ s_at 22 (stmt.Assign (to_var 22 6) None (var_at 14 5)) ∷ []))
      ∷ s_at 20 (stmt.Return (Some (two_at 21 op.Add (var_at 22 6) (var_at 25 0)))) ∷ [])) ∷ [];
}

abbrev pub HasTwoBlocks : Type 0
HasTwoBlocks = Inlined twice_twice twice_tree

-- 3 of the header, 1 of the block around, twice 10 of a call's block, and 4 of the return
abbrev pub HasItsNodes : Type 0
HasItsNodes = inlined_nodes twice_twice ≡ 28

-- ---- each call has a store of its own

-- static int32_t g(int32_t p) { int32_t q; if (p) q = p; return q; }   int32_t f(int32_t p) { return g(1) + g(0); }
abbrev pub local_again : TypedProgram
local_again = a_program
    (a_helper (a_stmt 10 (act.Declare 1 None) ∷ a_stmt 11 (act.If (a_var 12 0) (a_stmt 13 (act.Assign (record { to = object.Var 1; at = place 13; indices = [] }) None (a_var 14 0))) None) ∷ []) (a_var 15 1))
    (a_stmt 20 (act.Return (Some (p_at 21 (tree.Binary op.Add (a_call 22 0 (p_at 23 (tree.Number 1))) (a_call 24 0 (p_at 25 (tree.Number 0))))))) ∷ [])

-- the local of the second call has no value
abbrev pub LocalIsUnset : Type 0
LocalIsUnset = (program_run local_again Plain (given 3) 40).how ≡ undefined (place 15)

-- ---- the turns of calls are turns of the run

-- static int32_t g(int32_t p) { int32_t q = p; while (q) q--; return q; }   int32_t f(int32_t p) { return g(p); }
abbrev pub counts_down : TypedProgram
counts_down = a_program
    (a_helper (a_stmt 10 (act.Declare 1 (Some (a_var 11 0))) ∷ a_stmt 12 (act.While (a_var 13 1) (a_stmt 14 (act.Step (record { to = object.Var 1; at = place 14; indices = [] }) false))) ∷ []) (a_var 15 1))
    (a_stmt 20 (act.Return (Some (a_call 21 0 (a_var 22 0)))) ∷ [])

abbrev pub EndsWithZero : Type 0
EndsWithZero = Calls counts_down Plain (given 3) [] (Some (pos 0))

abbrev pub OutOfTurns : Type 0
OutOfTurns = (program_run counts_down Plain (given 3) 11).how ≡ out_of_turns

-- ---- what is lawful

abbrev pub TwiceIsLawful : Type 0
TwiceIsLawful = LawfulProgram twice_twice

-- no call stands in the right side of &&, which may be left out
abbrev pub CallInASide : Type 0
CallInASide = (k : Objects) → ¬ (LawfulCallExpr k (signature_of (a_helper [] (a_var 14 1)) ∷ []) true (p_at 1 (tree.Binary op.Both (a_var 2 0) (a_call 3 0 (a_var 4 0)))))

-- a variable may not be read behind the block that declares it
abbrev pub ReadBehindItsBlock : Type 0
ReadBehindItsBlock = ¬ (InScope 1 (a_stmt 1 (act.Block (a_stmt 2 (act.Declare 1 (Some (a_var 3 0))) ∷ [])) ∷ a_stmt 4 (act.Return (Some (a_var 5 1))) ∷ []))
