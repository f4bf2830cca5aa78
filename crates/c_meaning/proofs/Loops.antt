-- Worked kernels with loops, each with its result, its arrays and its turns.
use Rattle.std.proofs.Common.{◌≡◌, [], ◌∷◌, Some, None, refl}
use Rattle.std.specs.Prelude.{true, false, pos}
use denote.Hole.Carrier.{hidden}
use Rattle.el_base.specs.declared.ty.Ty.TheVariants.{I32}
use Rattle.c_ast.specs.declared.tree.Binary.TheVariants as op
use Rattle.c_ast.specs.declared.typed.TypedExpr.{TypedExpr}
use Rattle.c_ast.specs.declared.typed.TypedExprKind.TheBlock.{shape-the_row-TypedExpr-0, hidden-the_row-TypedExpr-0, shape-the_row-TypedExpr-1, hidden-the_row-TypedExpr-1}
use Rattle.c_ast.specs.declared.typed.TypedStmtKind.TheBlock.{shape-the_row-TypedStmt-0, hidden-the_row-TypedStmt-0, shape-the_row-TypedStmt-1, hidden-the_row-TypedStmt-1}
use Rattle.c_ast.specs.declared.typed.TypedStmtKind.TheVariants as stmt
use Rattle.c_ast.specs.declared.typed.Typed.{Typed}
use Rattle.c_meaning.specs.Runs.{out_of_turns}
use Rattle.c_meaning.specs.declared.profile.Profile.TheVariants.{Plain}
use Rattle.c_meaning.specs.Statements.{kernel_run, Ends}
use Rattle.c_meaning.proofs.Build.{number_of, var_of, element_of, two_of, stmt_of, to_var, scalar, array, array_of, kernel, inputs}

abbrev one : TypedExpr
one = number_of I32 1

-- int32_t f(int32_t n, int32_t a[8]) { int32_t s = 0; for (int32_t i = 0; i < n; i++) s += a[i]; return s; }
abbrev sum_loop : Typed
sum_loop = kernel (Some I32) (scalar I32 ∷ array I32 (8 ∷ []) ∷ []) (I32 ∷ I32 ∷ I32 ∷ []) (array_of I32 (8 ∷ []) ∷ [])
    (stmt_of (stmt.Declare 1 (Some (number_of I32 0)))
    ∷ stmt_of (stmt.For (stmt_of (stmt.Declare 2 (Some (number_of I32 0))) ∷ []) (Some (two_of op.Lt I32 (var_of I32 2) (var_of I32 0))) (Some (stmt_of (stmt.Step (to_var 2) true)))
    (stmt_of (stmt.Assign (to_var 1) (Some op.Add) (element_of I32 0 (var_of I32 2 ∷ [])))))
    ∷ stmt_of (stmt.Return (Some (var_of I32 1))) ∷ [])

sum_loop_ends : Ends sum_loop Plain (inputs (pos 8 ∷ []) ((pos 1 ∷ pos 2 ∷ pos 3 ∷ pos 4 ∷ pos 5 ∷ pos 6 ∷ pos 7 ∷ pos 8 ∷ []) ∷ [])) ((pos 1 ∷ pos 2 ∷ pos 3 ∷ pos 4 ∷ pos 5 ∷ pos 6 ∷ pos 7 ∷ pos 8 ∷ []) ∷ []) (Some (pos 36)) 30
unfolding shape-the_row-TypedExpr-0 hidden-the_row-TypedExpr-0 shape-the_row-TypedExpr-1 hidden-the_row-TypedExpr-1 shape-the_row-TypedStmt-0 hidden-the_row-TypedStmt-0 shape-the_row-TypedStmt-1 hidden-the_row-TypedStmt-1 hidden
sum_loop_ends = record { bound = 30; all_turns = refl; arrays = refl; result = refl }

out_of_turns_below : (kernel_run sum_loop Plain (inputs (pos 8 ∷ []) ((pos 1 ∷ pos 2 ∷ pos 3 ∷ pos 4 ∷ pos 5 ∷ pos 6 ∷ pos 7 ∷ pos 8 ∷ []) ∷ [])) 29).how ≡ out_of_turns
unfolding shape-the_row-TypedExpr-0 hidden-the_row-TypedExpr-0 shape-the_row-TypedExpr-1 hidden-the_row-TypedExpr-1 shape-the_row-TypedStmt-0 hidden-the_row-TypedStmt-0 shape-the_row-TypedStmt-1 hidden-the_row-TypedStmt-1 hidden
out_of_turns_below = refl

-- int32_t f(int32_t n, int32_t a[8]) { int32_t i = 0; while (i < n && a[i] > 0) i++; return i; }
abbrev while_positive : Typed
while_positive = kernel (Some I32) (scalar I32 ∷ array I32 (8 ∷ []) ∷ []) (I32 ∷ I32 ∷ []) (array_of I32 (8 ∷ []) ∷ [])
    (stmt_of (stmt.Declare 1 (Some (number_of I32 0)))
    ∷ stmt_of (stmt.While (two_of op.Both I32 (two_of op.Lt I32 (var_of I32 1) (var_of I32 0)) (two_of op.Gt I32 (element_of I32 0 (var_of I32 1 ∷ [])) (number_of I32 0)))
    (stmt_of (stmt.Step (to_var 1) true)))
    ∷ stmt_of (stmt.Return (Some (var_of I32 1))) ∷ [])

while_positive_ends : Ends while_positive Plain (inputs (pos 8 ∷ []) ((pos 1 ∷ pos 1 ∷ pos 1 ∷ pos 1 ∷ pos 1 ∷ pos 1 ∷ pos 1 ∷ pos 1 ∷ []) ∷ [])) ((pos 1 ∷ pos 1 ∷ pos 1 ∷ pos 1 ∷ pos 1 ∷ pos 1 ∷ pos 1 ∷ pos 1 ∷ []) ∷ []) (Some (pos 8)) 30
unfolding shape-the_row-TypedExpr-0 hidden-the_row-TypedExpr-0 shape-the_row-TypedExpr-1 hidden-the_row-TypedExpr-1 shape-the_row-TypedStmt-0 hidden-the_row-TypedStmt-0 shape-the_row-TypedStmt-1 hidden-the_row-TypedStmt-1 hidden
while_positive_ends = record { bound = 30; all_turns = refl; arrays = refl; result = refl }

-- int32_t f(int32_t n) { int32_t s = 0; for (;;) { n--; if (n == 0) break; if (n & 1) continue; s += n; } return s; }
abbrev leaves : Typed
leaves = kernel (Some I32) (scalar I32 ∷ []) (I32 ∷ I32 ∷ []) []
    (stmt_of (stmt.Declare 1 (Some (number_of I32 0)))
    ∷ stmt_of (stmt.For [] None None (stmt_of (stmt.Block
    (stmt_of (stmt.Step (to_var 0) false)
    ∷ stmt_of (stmt.If (two_of op.Eq I32 (var_of I32 0) (number_of I32 0)) (stmt_of stmt.Break) None)
    ∷ stmt_of (stmt.If (two_of op.And I32 (var_of I32 0) one) (stmt_of stmt.Continue) None)
    ∷ stmt_of (stmt.Assign (to_var 1) (Some op.Add) (var_of I32 0)) ∷ []))))
    ∷ stmt_of (stmt.Return (Some (var_of I32 1))) ∷ [])

leaves_end : Ends leaves Plain (inputs (pos 5 ∷ []) ([])) ([]) (Some (pos 6)) 42
unfolding shape-the_row-TypedExpr-0 hidden-the_row-TypedExpr-0 shape-the_row-TypedExpr-1 hidden-the_row-TypedExpr-1 shape-the_row-TypedStmt-0 hidden-the_row-TypedStmt-0 shape-the_row-TypedStmt-1 hidden-the_row-TypedStmt-1 hidden
leaves_end = record { bound = 42; all_turns = refl; arrays = refl; result = refl }

-- int32_t f(int32_t n) { int32_t i = 0; do i += 3; while (i < n); return i; }
abbrev at_least_once : Typed
at_least_once = kernel (Some I32) (scalar I32 ∷ []) (I32 ∷ I32 ∷ []) []
    (stmt_of (stmt.Declare 1 (Some (number_of I32 0)))
    ∷ stmt_of (stmt.DoWhile (stmt_of (stmt.Assign (to_var 1) (Some op.Add) (number_of I32 3))) (two_of op.Lt I32 (var_of I32 1) (var_of I32 0)))
    ∷ stmt_of (stmt.Return (Some (var_of I32 1))) ∷ [])

at_least_once_ends : Ends at_least_once Plain (inputs (pos 7 ∷ []) ([])) ([]) (Some (pos 9)) 10
unfolding shape-the_row-TypedExpr-0 hidden-the_row-TypedExpr-0 shape-the_row-TypedExpr-1 hidden-the_row-TypedExpr-1 shape-the_row-TypedStmt-0 hidden-the_row-TypedStmt-0 shape-the_row-TypedStmt-1 hidden-the_row-TypedStmt-1 hidden
at_least_once_ends = record { bound = 10; all_turns = refl; arrays = refl; result = refl }

once_ends : Ends at_least_once Plain (inputs (pos 0 ∷ []) ([])) ([]) (Some (pos 3)) 6
unfolding shape-the_row-TypedExpr-0 hidden-the_row-TypedExpr-0 shape-the_row-TypedExpr-1 hidden-the_row-TypedExpr-1 shape-the_row-TypedStmt-0 hidden-the_row-TypedStmt-0 shape-the_row-TypedStmt-1 hidden-the_row-TypedStmt-1 hidden
once_ends = record { bound = 6; all_turns = refl; arrays = refl; result = refl }
