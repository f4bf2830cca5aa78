-- Worked kernels that are undefined: one for each cause.
use Rattle.std.proofs.Common.{◌≡◌, [], ◌∷◌, Some, None, refl}
use Rattle.std.specs.Prelude.{false, pos, negsuc}
use denote.Hole.Carrier.{hidden}
use Rattle.el_base.specs.declared.ty.Ty.TheVariants.{I32}
use Rattle.c_ast.specs.declared.tree.Binary.{Binary}
use Rattle.c_ast.specs.declared.tree.Binary.TheVariants as op
use Rattle.c_ast.specs.declared.typed.TypedExpr.{TypedExpr}
use Rattle.c_ast.specs.declared.typed.TypedExprKind.TheBlock.{shape-the_row-TypedExpr-0, hidden-the_row-TypedExpr-0, shape-the_row-TypedExpr-1, hidden-the_row-TypedExpr-1}
use Rattle.c_ast.specs.declared.typed.TypedStmtKind.TheBlock.{shape-the_row-TypedStmt-0, hidden-the_row-TypedStmt-0, shape-the_row-TypedStmt-1, hidden-the_row-TypedStmt-1}
use Rattle.c_ast.specs.declared.typed.TypedStmtKind.TheVariants as stmt
use Rattle.c_ast.specs.declared.typed.Typed.{Typed}
use Rattle.c_meaning.specs.Runs.{undefined}
use Rattle.c_meaning.specs.declared.profile.Profile.TheVariants.{Plain}
use Rattle.c_meaning.specs.Statements.{kernel_run, Ends}
use Rattle.c_meaning.proofs.Build.{here, number_of, var_of, two_of, stmt_of, to_var, to_element, scalar, array, array_of, kernel, inputs, minus_of, choose_of}

abbrev gives_two : TypedExpr → Typed
gives_two e = kernel (Some I32) (scalar I32 ∷ scalar I32 ∷ []) (I32 ∷ I32 ∷ I32 ∷ []) [] (stmt_of (stmt.Return (Some e)) ∷ [])

abbrev joins : Binary → Typed
joins o = gives_two (two_of o I32 (var_of I32 0) (var_of I32 1))

-- void f(int32_t n, int32_t a[8]) { a[n] = 1; }
abbrev write_at : Typed
write_at = kernel None (scalar I32 ∷ array I32 (8 ∷ []) ∷ []) (I32 ∷ []) (array_of I32 (8 ∷ []) ∷ [])
    (stmt_of (stmt.Assign (to_element 0 (var_of I32 0 ∷ [])) None (number_of I32 1)) ∷ [])

last_element : Ends write_at Plain (inputs (pos 7 ∷ []) ((pos 0 ∷ pos 0 ∷ pos 0 ∷ pos 0 ∷ pos 0 ∷ pos 0 ∷ pos 0 ∷ pos 0 ∷ []) ∷ [])) ((pos 0 ∷ pos 0 ∷ pos 0 ∷ pos 0 ∷ pos 0 ∷ pos 0 ∷ pos 0 ∷ pos 1 ∷ []) ∷ []) (None) 2
unfolding shape-the_row-TypedExpr-0 hidden-the_row-TypedExpr-0 shape-the_row-TypedExpr-1 hidden-the_row-TypedExpr-1 shape-the_row-TypedStmt-0 hidden-the_row-TypedStmt-0 shape-the_row-TypedStmt-1 hidden-the_row-TypedStmt-1 hidden
last_element = record { bound = 2; all_turns = refl; arrays = refl; result = refl }

index_at_length : (kernel_run write_at Plain (inputs (pos 8 ∷ []) ((pos 0 ∷ pos 0 ∷ pos 0 ∷ pos 0 ∷ pos 0 ∷ pos 0 ∷ pos 0 ∷ pos 0 ∷ []) ∷ [])) 9).how ≡ undefined here
unfolding shape-the_row-TypedExpr-0 hidden-the_row-TypedExpr-0 shape-the_row-TypedExpr-1 hidden-the_row-TypedExpr-1 shape-the_row-TypedStmt-0 hidden-the_row-TypedStmt-0 shape-the_row-TypedStmt-1 hidden-the_row-TypedStmt-1 hidden
index_at_length = refl

negative_index : (kernel_run write_at Plain (inputs (negsuc 0 ∷ []) ((pos 0 ∷ pos 0 ∷ pos 0 ∷ pos 0 ∷ pos 0 ∷ pos 0 ∷ pos 0 ∷ pos 0 ∷ []) ∷ [])) 9).how ≡ undefined here
unfolding shape-the_row-TypedExpr-0 hidden-the_row-TypedExpr-0 shape-the_row-TypedExpr-1 hidden-the_row-TypedExpr-1 shape-the_row-TypedStmt-0 hidden-the_row-TypedStmt-0 shape-the_row-TypedStmt-1 hidden-the_row-TypedStmt-1 hidden
negative_index = refl

-- int32_t f(int32_t a, int32_t b) { return a OP b; }
sum_overflows : (kernel_run (joins op.Add) Plain (inputs (pos 2147483647 ∷ pos 1 ∷ []) ([])) 9).how ≡ undefined here
unfolding shape-the_row-TypedExpr-0 hidden-the_row-TypedExpr-0 shape-the_row-TypedExpr-1 hidden-the_row-TypedExpr-1 shape-the_row-TypedStmt-0 hidden-the_row-TypedStmt-0 shape-the_row-TypedStmt-1 hidden-the_row-TypedStmt-1 hidden
sum_overflows = refl

difference_overflows : (kernel_run (joins op.Sub) Plain (inputs (negsuc 2147483647 ∷ pos 1 ∷ []) ([])) 9).how ≡ undefined here
unfolding shape-the_row-TypedExpr-0 hidden-the_row-TypedExpr-0 shape-the_row-TypedExpr-1 hidden-the_row-TypedExpr-1 shape-the_row-TypedStmt-0 hidden-the_row-TypedStmt-0 shape-the_row-TypedStmt-1 hidden-the_row-TypedStmt-1 hidden
difference_overflows = refl

product_overflows : (kernel_run (joins op.Mul) Plain (inputs (pos 65536 ∷ pos 65536 ∷ []) ([])) 9).how ≡ undefined here
unfolding shape-the_row-TypedExpr-0 hidden-the_row-TypedExpr-0 shape-the_row-TypedExpr-1 hidden-the_row-TypedExpr-1 shape-the_row-TypedStmt-0 hidden-the_row-TypedStmt-0 shape-the_row-TypedStmt-1 hidden-the_row-TypedStmt-1 hidden
product_overflows = refl

zero_divisor : (kernel_run (joins op.Div) Plain (inputs (pos 1 ∷ pos 0 ∷ []) ([])) 9).how ≡ undefined here
unfolding shape-the_row-TypedExpr-0 hidden-the_row-TypedExpr-0 shape-the_row-TypedExpr-1 hidden-the_row-TypedExpr-1 shape-the_row-TypedStmt-0 hidden-the_row-TypedStmt-0 shape-the_row-TypedStmt-1 hidden-the_row-TypedStmt-1 hidden
zero_divisor = refl

quotient_overflows : (kernel_run (joins op.Div) Plain (inputs (negsuc 2147483647 ∷ negsuc 0 ∷ []) ([])) 9).how ≡ undefined here
unfolding shape-the_row-TypedExpr-0 hidden-the_row-TypedExpr-0 shape-the_row-TypedExpr-1 hidden-the_row-TypedExpr-1 shape-the_row-TypedStmt-0 hidden-the_row-TypedStmt-0 shape-the_row-TypedStmt-1 hidden-the_row-TypedStmt-1 hidden
quotient_overflows = refl

zero_modulus : (kernel_run (joins op.Rem) Plain (inputs (pos 1 ∷ pos 0 ∷ []) ([])) 9).how ≡ undefined here
unfolding shape-the_row-TypedExpr-0 hidden-the_row-TypedExpr-0 shape-the_row-TypedExpr-1 hidden-the_row-TypedExpr-1 shape-the_row-TypedStmt-0 hidden-the_row-TypedStmt-0 shape-the_row-TypedStmt-1 hidden-the_row-TypedStmt-1 hidden
zero_modulus = refl

least_by_minus_one : (kernel_run (joins op.Rem) Plain (inputs (negsuc 2147483647 ∷ negsuc 0 ∷ []) ([])) 9).how ≡ undefined here
unfolding shape-the_row-TypedExpr-0 hidden-the_row-TypedExpr-0 shape-the_row-TypedExpr-1 hidden-the_row-TypedExpr-1 shape-the_row-TypedStmt-0 hidden-the_row-TypedStmt-0 shape-the_row-TypedStmt-1 hidden-the_row-TypedStmt-1 hidden
least_by_minus_one = refl

shift_by_width : (kernel_run (joins op.Shl) Plain (inputs (pos 1 ∷ pos 32 ∷ []) ([])) 9).how ≡ undefined here
unfolding shape-the_row-TypedExpr-0 hidden-the_row-TypedExpr-0 shape-the_row-TypedExpr-1 hidden-the_row-TypedExpr-1 shape-the_row-TypedStmt-0 hidden-the_row-TypedStmt-0 shape-the_row-TypedStmt-1 hidden-the_row-TypedStmt-1 hidden
shift_by_width = refl

right_shift_by_width : (kernel_run (joins op.Shr) Plain (inputs (pos 1 ∷ pos 32 ∷ []) ([])) 9).how ≡ undefined here
unfolding shape-the_row-TypedExpr-0 hidden-the_row-TypedExpr-0 shape-the_row-TypedExpr-1 hidden-the_row-TypedExpr-1 shape-the_row-TypedStmt-0 hidden-the_row-TypedStmt-0 shape-the_row-TypedStmt-1 hidden-the_row-TypedStmt-1 hidden
right_shift_by_width = refl

shift_by_negative : (kernel_run (joins op.Shl) Plain (inputs (pos 1 ∷ negsuc 0 ∷ []) ([])) 9).how ≡ undefined here
unfolding shape-the_row-TypedExpr-0 hidden-the_row-TypedExpr-0 shape-the_row-TypedExpr-1 hidden-the_row-TypedExpr-1 shape-the_row-TypedStmt-0 hidden-the_row-TypedStmt-0 shape-the_row-TypedStmt-1 hidden-the_row-TypedStmt-1 hidden
shift_by_negative = refl

shift_of_negative : (kernel_run (joins op.Shl) Plain (inputs (negsuc 0 ∷ pos 1 ∷ []) ([])) 9).how ≡ undefined here
unfolding shape-the_row-TypedExpr-0 hidden-the_row-TypedExpr-0 shape-the_row-TypedExpr-1 hidden-the_row-TypedExpr-1 shape-the_row-TypedStmt-0 hidden-the_row-TypedStmt-0 shape-the_row-TypedStmt-1 hidden-the_row-TypedStmt-1 hidden
shift_of_negative = refl

shift_overflows : (kernel_run (joins op.Shl) Plain (inputs (pos 1 ∷ pos 31 ∷ []) ([])) 9).how ≡ undefined here
unfolding shape-the_row-TypedExpr-0 hidden-the_row-TypedExpr-0 shape-the_row-TypedExpr-1 hidden-the_row-TypedExpr-1 shape-the_row-TypedStmt-0 hidden-the_row-TypedStmt-0 shape-the_row-TypedStmt-1 hidden-the_row-TypedStmt-1 hidden
shift_overflows = refl

-- the arithmetic right shift of a negative number is defined
right_shift_of_negative : Ends (joins op.Shr) Plain (inputs (negsuc 6 ∷ pos 1 ∷ []) ([])) ([]) (Some (negsuc 3)) 2
unfolding shape-the_row-TypedExpr-0 hidden-the_row-TypedExpr-0 shape-the_row-TypedExpr-1 hidden-the_row-TypedExpr-1 shape-the_row-TypedStmt-0 hidden-the_row-TypedStmt-0 shape-the_row-TypedStmt-1 hidden-the_row-TypedStmt-1 hidden
right_shift_of_negative = record { bound = 2; all_turns = refl; arrays = refl; result = refl }

-- int32_t f(int32_t a, int32_t b) { return -a; }
abbrev negated : Typed
negated = gives_two (minus_of I32 (var_of I32 0))

negative_overflows : (kernel_run negated Plain (inputs (negsuc 2147483647 ∷ pos 0 ∷ []) ([])) 9).how ≡ undefined here
unfolding shape-the_row-TypedExpr-0 hidden-the_row-TypedExpr-0 shape-the_row-TypedExpr-1 hidden-the_row-TypedExpr-1 shape-the_row-TypedStmt-0 hidden-the_row-TypedStmt-0 shape-the_row-TypedStmt-1 hidden-the_row-TypedStmt-1 hidden
negative_overflows = refl

-- int32_t f(int32_t a, int32_t b) { int32_t c; return c; }
abbrev unset_local : Typed
unset_local = kernel (Some I32) (scalar I32 ∷ scalar I32 ∷ []) (I32 ∷ I32 ∷ I32 ∷ []) []
    (stmt_of (stmt.Declare 2 None) ∷ stmt_of (stmt.Return (Some (var_of I32 2))) ∷ [])

unset_local_is_undefined : (kernel_run unset_local Plain (inputs (pos 1 ∷ pos 2 ∷ []) ([])) 9).how ≡ undefined here
unfolding shape-the_row-TypedExpr-0 hidden-the_row-TypedExpr-0 shape-the_row-TypedExpr-1 hidden-the_row-TypedExpr-1 shape-the_row-TypedStmt-0 hidden-the_row-TypedStmt-0 shape-the_row-TypedStmt-1 hidden-the_row-TypedStmt-1 hidden
unset_local_is_undefined = refl

-- int32_t f(int32_t a, int32_t b) { while (a) { int32_t c = b ? c : 1; a--; b = 1; } return 0; } : in the second round c is unset again
abbrev own_value : Typed
own_value = kernel (Some I32) (scalar I32 ∷ scalar I32 ∷ []) (I32 ∷ I32 ∷ I32 ∷ []) []
    (stmt_of (stmt.While (var_of I32 0) (stmt_of (stmt.Block
    (stmt_of (stmt.Declare 2 (Some (choose_of I32 (var_of I32 1) (var_of I32 2) (number_of I32 1))))
    ∷ stmt_of (stmt.Step (to_var 0) false)
    ∷ stmt_of (stmt.Assign (to_var 1) None (number_of I32 1)) ∷ []))))
    ∷ stmt_of (stmt.Return (Some (number_of I32 0))) ∷ [])

one_round : Ends own_value Plain (inputs (pos 1 ∷ pos 0 ∷ []) ([])) ([]) (Some (pos 0)) 10
unfolding shape-the_row-TypedExpr-0 hidden-the_row-TypedExpr-0 shape-the_row-TypedExpr-1 hidden-the_row-TypedExpr-1 shape-the_row-TypedStmt-0 hidden-the_row-TypedStmt-0 shape-the_row-TypedStmt-1 hidden-the_row-TypedStmt-1 hidden
one_round = record { bound = 10; all_turns = refl; arrays = refl; result = refl }

second_round : (kernel_run own_value Plain (inputs (pos 2 ∷ pos 0 ∷ []) ([])) 40).how ≡ undefined here
unfolding shape-the_row-TypedExpr-0 hidden-the_row-TypedExpr-0 shape-the_row-TypedExpr-1 hidden-the_row-TypedExpr-1 shape-the_row-TypedStmt-0 hidden-the_row-TypedStmt-0 shape-the_row-TypedStmt-1 hidden-the_row-TypedStmt-1 hidden
second_round = refl

-- int32_t f(int32_t a, int32_t b) { a = b; } : nothing is returned
abbrev no_return : Typed
no_return = kernel (Some I32) (scalar I32 ∷ scalar I32 ∷ []) (I32 ∷ I32 ∷ I32 ∷ []) []
    (stmt_of (stmt.Assign (to_var 0) None (var_of I32 1)) ∷ [])

ends_without_return : (kernel_run no_return Plain (inputs (pos 1 ∷ pos 2 ∷ []) ([])) 9).how ≡ undefined here
unfolding shape-the_row-TypedExpr-0 hidden-the_row-TypedExpr-0 shape-the_row-TypedExpr-1 hidden-the_row-TypedExpr-1 shape-the_row-TypedStmt-0 hidden-the_row-TypedStmt-0 shape-the_row-TypedStmt-1 hidden-the_row-TypedStmt-1 hidden
ends_without_return = refl
