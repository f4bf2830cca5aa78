-- The kernel of a bench: its bytes, its tree and its typed tree.
use Rattle.std.specs.Prelude.{ℕ, ◌+◌, List, [], ◌∷◌, Some, None, true, codes}
use Rattle.el_base.specs.declared.span.Span.{Span}
use Rattle.el_base.specs.declared.ty.Ty.TheVariants.{I32}
use Rattle.c_ast.specs.declared.tree.Binary.TheVariants as op
use Rattle.c_ast.specs.declared.tree.Param.{Param}
use Rattle.c_ast.specs.declared.tree.Target.{Target}
use Rattle.c_ast.specs.declared.tree.Expr.{Expr}
use Rattle.c_ast.specs.declared.tree.ExprKind.TheVariants as expr
use Rattle.c_ast.specs.declared.tree.Stmt.{Stmt}
use Rattle.c_ast.specs.declared.tree.StmtKind.TheVariants as stmt
use Rattle.c_ast.specs.declared.tree.Tree.{Tree}
use Rattle.c_ast.specs.declared.tree.Program.{Program}
use Rattle.c_ast.specs.declared.typed.ArrayOf.{ArrayOf}
use Rattle.c_ast.specs.declared.typed.Object.TheVariants as object
use Rattle.c_ast.specs.declared.typed.TypedTarget.{TypedTarget}
use Rattle.c_ast.specs.declared.typed.TypedExpr.{TypedExpr}
use Rattle.c_ast.specs.declared.typed.TypedExprKind.{TypedExprKind}
use Rattle.c_ast.specs.declared.typed.TypedExprKind.TheVariants as typed
use Rattle.c_ast.specs.declared.typed.TypedStmt.{TypedStmt}
use Rattle.c_ast.specs.declared.typed.TypedStmtKind.TheVariants as act
use Rattle.c_ast.specs.declared.typed.Typed.{Typed}

-- each of n elements of x names an element of h, to which the element of w in the same place is added
abbrev pub bench_kernel : List ℕ
bench_kernel = codes "void hist(int32_t n, int32_t x[1024], int32_t w[1024], int32_t h[64]) { for (int32_t i = 0; i < n; i++) h[x[i]] += w[i]; }"

-- the bytes from the one number up to the other, in the first line
abbrev pub line_span : ℕ → ℕ → Span
line_span first last = record { start = first; end = last; line = 1; column = first + 1 }

-- ---- its tree

abbrev pub param_n : Param
param_n = record { name = codes "n"; at = line_span 18 19; ty = I32; dims = [] }

abbrev pub param_x : Param
param_x = record { name = codes "x"; at = line_span 29 30; ty = I32; dims = 1024 ∷ [] }

abbrev pub param_w : Param
param_w = record { name = codes "w"; at = line_span 46 47; ty = I32; dims = 1024 ∷ [] }

abbrev pub param_h : Param
param_h = record { name = codes "h"; at = line_span 63 64; ty = I32; dims = 64 ∷ [] }

abbrev pub hist_params : List Param
hist_params = param_n ∷ param_x ∷ param_w ∷ param_h ∷ []

-- int32_t i = 0
abbrev pub zero_expr : Expr
zero_expr = record { kind = expr.Number 0 I32; at = line_span 89 90 }

abbrev pub declare_stmt : Stmt
declare_stmt = record { kind = stmt.Declare (codes "i") I32 (Some zero_expr); at = line_span 85 86 }

-- i < n
abbrev pub less_expr : Expr
less_expr = record { kind = expr.Binary op.Lt (record { kind = expr.Name (codes "i"); at = line_span 92 93 }) (record { kind = expr.Name (codes "n"); at = line_span 96 97 }); at = line_span 92 97 }

-- i++
abbrev pub step_target : Target
step_target = record { name = codes "i"; at = line_span 99 100; indices = [] }

abbrev pub step_stmt : Stmt
step_stmt = record { kind = stmt.Step step_target true; at = line_span 99 102 }

-- h[x[i]] += w[i]
abbrev pub place_expr : Expr
place_expr = record { kind = expr.Element (codes "x") (record { kind = expr.Name (codes "i"); at = line_span 108 109 } ∷ []); at = line_span 106 110 }

abbrev pub add_target : Target
add_target = record { name = codes "h"; at = line_span 104 111; indices = place_expr ∷ [] }

abbrev pub weight_expr : Expr
weight_expr = record { kind = expr.Element (codes "w") (record { kind = expr.Name (codes "i"); at = line_span 117 118 } ∷ []); at = line_span 115 119 }

abbrev pub add_stmt : Stmt
add_stmt = record { kind = stmt.Assign add_target (Some op.Add) weight_expr; at = line_span 104 119 }

abbrev pub for_stmt : Stmt
for_stmt = record { kind = stmt.For (declare_stmt ∷ []) (Some less_expr) (Some step_stmt) add_stmt; at = line_span 72 120 }

abbrev pub hist_tree : Tree
hist_tree = record { name = codes "hist"; at = line_span 5 9; result = None; params = hist_params; body = for_stmt ∷ [] }

-- there is no helper
abbrev pub hist_program : Program
hist_program = record { helpers = []; kernel = hist_tree }

-- ---- its typed tree: the variables are n and i, the arrays x, w and h

abbrev pub of_i32 : TypedExprKind → Span → TypedExpr
of_i32 kind s = record { kind = kind; ty = I32; at = s }

abbrev pub typed_zero : TypedExpr
typed_zero = of_i32 (typed.Number 0) (line_span 89 90)

abbrev pub typed_declare : TypedStmt
typed_declare = record { kind = act.Declare 1 (Some typed_zero); at = line_span 85 86 }

abbrev pub typed_less : TypedExpr
typed_less = of_i32 (typed.Binary op.Lt (of_i32 (typed.Var 1) (line_span 92 93)) (of_i32 (typed.Var 0) (line_span 96 97))) (line_span 92 97)

abbrev pub typed_step_target : TypedTarget
typed_step_target = record { to = object.Var 1; at = line_span 99 100; indices = [] }

abbrev pub typed_step : TypedStmt
typed_step = record { kind = act.Step typed_step_target true; at = line_span 99 102 }

abbrev pub typed_place : TypedExpr
typed_place = of_i32 (typed.Element 0 (of_i32 (typed.Var 1) (line_span 108 109) ∷ [])) (line_span 106 110)

abbrev pub typed_add_target : TypedTarget
typed_add_target = record { to = object.Array 2; at = line_span 104 111; indices = typed_place ∷ [] }

abbrev pub typed_weight : TypedExpr
typed_weight = of_i32 (typed.Element 1 (of_i32 (typed.Var 1) (line_span 117 118) ∷ [])) (line_span 115 119)

abbrev pub typed_add : TypedStmt
typed_add = record { kind = act.Assign typed_add_target (Some op.Add) typed_weight; at = line_span 104 119 }

abbrev pub typed_for : TypedStmt
typed_for = record { kind = act.For (typed_declare ∷ []) (Some typed_less) (Some typed_step) typed_add; at = line_span 72 120 }

abbrev pub hist_arrays : List ArrayOf
hist_arrays = record { name = codes "x"; ty = I32; dims = 1024 ∷ [] } ∷ record { name = codes "w"; ty = I32; dims = 1024 ∷ [] }
    ∷ record { name = codes "h"; ty = I32; dims = 64 ∷ [] } ∷ []

abbrev pub hist : Typed
hist = record { name = codes "hist"; at = line_span 5 9; result = None; params = hist_params; vars = I32 ∷ I32 ∷ []; arrays = hist_arrays; body = typed_for ∷ [] }
