-- Worked kernels without loops, each with its result and its turns.
use Rattle.std.proofs.Common.{[], ◌∷◌, Some, None, refl}
use Rattle.std.specs.Prelude.{true, false, pos, negsuc}
use Rattle.el_base.specs.declared.ty.Ty.TheVariants.{I32, U32, I64, U8}
use Rattle.c_ast.specs.declared.tree.Binary.TheVariants as op
use Rattle.c_ast.specs.declared.typed.TypedStmtKind.TheVariants as stmt
use Rattle.c_ast.specs.declared.typed.Typed.{Typed}
use Rattle.c_meaning.specs.declared.profile.Profile.TheVariants.{Plain}
use Rattle.c_meaning.specs.Statements.{Ends}
use Rattle.c_meaning.proofs.Build.{number_of, var_of, two_of, cast_to, stmt_of, to_var, scalar, kernel, inputs}
use Rattle.c_meaning.proofs.TreeRows.{typed_rows}

-- int32_t f(int32_t a, int32_t b) { return a + b * 3; }
abbrev sum_and_product : Typed
sum_and_product = kernel (Some I32) (scalar I32 ∷ scalar I32 ∷ []) (I32 ∷ I32 ∷ []) []
    (stmt_of (stmt.Return (Some (two_of op.Add I32 (var_of I32 0) (two_of op.Mul I32 (var_of I32 1) (number_of I32 3))))) ∷ [])

sum_and_product_ends : Ends sum_and_product Plain (inputs (pos 2 ∷ pos 5 ∷ []) ([])) ([]) (Some (pos 17)) 2
sum_and_product_ends = unfold typed_rows in record { bound = 2; all_turns = refl; arrays = refl; result = refl }

-- uint8_t f(uint8_t c) { c++; return c; }
abbrev counter : Typed
counter = kernel (Some U8) (scalar U8 ∷ []) (U8 ∷ []) []
    (stmt_of (stmt.Step (to_var 0) true) ∷ stmt_of (stmt.Return (Some (var_of U8 0))) ∷ [])

counter_ends : Ends counter Plain (inputs (pos 255 ∷ []) ([])) ([]) (Some (pos 0)) 3
counter_ends = unfold typed_rows in record { bound = 3; all_turns = refl; arrays = refl; result = refl }

-- int32_t f(int32_t a, uint32_t b) { return (a < b) * 10 + ((int64_t)a < b); }
abbrev comparisons : Typed
comparisons = kernel (Some I32) (scalar I32 ∷ scalar U32 ∷ []) (I32 ∷ U32 ∷ []) []
    (stmt_of (stmt.Return (Some (two_of op.Add I32
    (two_of op.Mul I32 (two_of op.Lt I32 (cast_to U32 true (var_of I32 0)) (var_of U32 1)) (number_of I32 10))
    (two_of op.Lt I32 (cast_to I64 false (var_of I32 0)) (cast_to I64 true (var_of U32 1)))))) ∷ [])

comparisons_end : Ends comparisons Plain (inputs (negsuc 0 ∷ pos 1 ∷ []) ([])) ([]) (Some (pos 1)) 2
comparisons_end = unfold typed_rows in record { bound = 2; all_turns = refl; arrays = refl; result = refl }

-- int32_t f(int32_t a, int32_t b) { return a / b * 100 + a % b; }
abbrev division : Typed
division = kernel (Some I32) (scalar I32 ∷ scalar I32 ∷ []) (I32 ∷ I32 ∷ []) []
    (stmt_of (stmt.Return (Some (two_of op.Add I32
    (two_of op.Mul I32 (two_of op.Div I32 (var_of I32 0) (var_of I32 1)) (number_of I32 100))
    (two_of op.Rem I32 (var_of I32 0) (var_of I32 1))))) ∷ [])

division_ends : Ends division Plain (inputs (negsuc 6 ∷ pos 2 ∷ []) ([])) ([]) (Some (negsuc 300)) 2
division_ends = unfold typed_rows in record { bound = 2; all_turns = refl; arrays = refl; result = refl }

-- void f(void) { }
abbrev empty : Typed
empty = kernel None [] [] [] []

empty_ends : Ends empty Plain (inputs ([]) ([])) ([]) (None) 1
empty_ends = unfold typed_rows in record { bound = 1; all_turns = refl; arrays = refl; result = refl }
