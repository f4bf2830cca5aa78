-- How many syntax nodes a kernel has: each part is one, and what is absent counts nothing. A typed tree has as many: a cast that is marked as implied counts nothing.
use Rattle.std.specs.Prelude.{ℕ, ◌+◌, List, length, sum, sum_by, true, false, Option, Some, None}
use mathlib.Core.Former.{Count}
use Rattle.c_ast.specs.declared.tree.Tree.{Tree}
use Rattle.c_ast.specs.declared.tree.Param.{Param}
use Rattle.c_ast.specs.declared.tree.Target.{Target}
use Rattle.c_ast.specs.declared.tree.Stmt.{Stmt, fold-Stmt}
use Rattle.c_ast.specs.declared.tree.StmtKind.TheOpen.{StmtKind-F, Block, Declare, Assign, Step, If, While, DoWhile, For, Break, Continue, Return, Empty}
use Rattle.c_ast.specs.declared.tree.Expr.{Expr, fold-Expr}
use Rattle.c_ast.specs.declared.tree.ExprKind.TheOpen.{ExprKind-F, Number, Name, Element, Call, Unary, Cast, Binary, Choose}
use Rattle.c_ast.specs.declared.typed.Typed.{Typed}
use Rattle.c_ast.specs.declared.typed.TypedTarget.{TypedTarget}
use Rattle.c_ast.specs.declared.typed.TypedExpr.{TypedExpr}
use Rattle.c_ast.specs.declared.typed.TypedExprKind.{TypedExprKind, Row_of-TypedExpr, end_of-TypedExpr, more_of-TypedExpr}
use Rattle.c_ast.specs.declared.typed.TypedExprKind as typed
use Rattle.c_ast.specs.declared.typed.TypedStmt.{TypedStmt}
use Rattle.c_ast.specs.declared.typed.TypedStmtKind.{TypedStmtKind, Row_of-TypedStmt, end_of-TypedStmt, more_of-TypedStmt, Held-TypedStmtKind-If-2}
use Rattle.c_ast.specs.declared.typed.TypedStmtKind as act

-- ---- syntax trees

-- one expression, with the number of nodes of each part in its place
abbrev pub expr_step : ExprKind-F ℕ ℕ → ℕ
expr_step (Number value ty) = 1
expr_step (Name name) = 1
expr_step (Element name indices) = 1 + sum indices
expr_step (Call name args) = 1 + sum args
expr_step (Unary op arg) = 1 + arg
expr_step (Cast ty arg) = 1 + arg
expr_step (Binary op left right) = 1 + left + right
expr_step (Choose cond yes_part no_part) = 1 + cond + yes_part + no_part

abbrev pub expr_nodes : Expr → ℕ
expr_nodes = fold-Expr ℕ ℕ expr_step (λ e. e.kind)

abbrev pub exprs_nodes : List Expr → ℕ
exprs_nodes es = sum_by expr_nodes es

-- an expression that may be absent
abbrev pub opt_nodes : Option Expr → ℕ
opt_nodes None = 0
opt_nodes (Some e) = expr_nodes e

-- what is assigned to: itself and its indices
abbrev pub target_nodes : Target → ℕ
target_nodes t = 1 + exprs_nodes t.indices

-- a statement that may be absent, counted already
abbrev pub counted : Option ℕ → ℕ
counted None = 0
counted (Some n) = n

-- one statement, with the number of nodes of each part in its place
abbrev pub stmt_step : StmtKind-F ℕ ℕ → ℕ
stmt_step (Block body) = 1 + sum body
stmt_step (Declare name ty init) = 1 + opt_nodes init
stmt_step (Assign target op value) = 1 + target_nodes target + expr_nodes value
stmt_step (Step target up) = 1 + target_nodes target
stmt_step (If cond yes_part no_part) = 1 + expr_nodes cond + yes_part + counted no_part
stmt_step (While cond body) = 1 + expr_nodes cond + body
stmt_step (DoWhile body cond) = 1 + body + expr_nodes cond
stmt_step (For first cond step body) = 1 + sum first + opt_nodes cond + counted step + body
stmt_step Break = 1
stmt_step Continue = 1
stmt_step (Return value) = 1 + opt_nodes value
stmt_step Empty = 1

abbrev pub stmt_nodes : Stmt → ℕ
stmt_nodes = fold-Stmt ℕ ℕ stmt_step (λ s. s.kind)

abbrev pub stmts_nodes : List Stmt → ℕ
stmts_nodes ss = sum_by stmt_nodes ss

-- a statement that may be absent
abbrev pub held_nodes : Option Stmt → ℕ
held_nodes None = 0
held_nodes (Some s) = stmt_nodes s

-- a parameter and each of its dimensions
abbrev pub param_nodes : Param → ℕ
param_nodes p = 1 + length p.dims

abbrev pub params_nodes : List Param → ℕ
params_nodes ps = sum_by param_nodes ps

-- the kernel, its parameters, its block and what the block holds
abbrev pub tree_nodes : Tree → ℕ
tree_nodes t = 1 + params_nodes t.params + (1 + stmts_nodes t.body)

-- ---- typed trees

abbrev mutual
  pub typed_kind_nodes : TypedExprKind → ℕ
  typed_kind_nodes (typed.Number n) = 1
  typed_kind_nodes (typed.Var v) = 1
  typed_kind_nodes (typed.Element' a n row) = 1 + typed_row_nodes row
  typed_kind_nodes (typed.Unary' op b (more_of-TypedExpr e t at end_of-TypedExpr)) = 1 + typed_kind_nodes e
  typed_kind_nodes (typed.Cast' true b (more_of-TypedExpr e t at end_of-TypedExpr)) = typed_kind_nodes e
  typed_kind_nodes (typed.Cast' false b (more_of-TypedExpr e t at end_of-TypedExpr)) = 1 + typed_kind_nodes e
  typed_kind_nodes (typed.Binary' op b (more_of-TypedExpr e t at end_of-TypedExpr) b2 (more_of-TypedExpr e2 t2 at2 end_of-TypedExpr)) =
      1 + typed_kind_nodes e + typed_kind_nodes e2
  typed_kind_nodes (typed.Choose' b (more_of-TypedExpr e t at end_of-TypedExpr) b2 (more_of-TypedExpr e2 t2 at2 end_of-TypedExpr) b3 (more_of-TypedExpr e3 t3 at3 end_of-TypedExpr)) =
      1 + typed_kind_nodes e + typed_kind_nodes e2 + typed_kind_nodes e3

  pub typed_row_nodes : {n : Count} → Row_of-TypedExpr n → ℕ
  typed_row_nodes end_of-TypedExpr = 0
  typed_row_nodes (more_of-TypedExpr e t at row) = typed_kind_nodes e + typed_row_nodes row

abbrev pub typed_expr_nodes : TypedExpr → ℕ
typed_expr_nodes e = typed_kind_nodes e.kind

abbrev pub typed_exprs_nodes : List TypedExpr → ℕ
typed_exprs_nodes es = sum_by typed_expr_nodes es

abbrev pub typed_opt_nodes : Option TypedExpr → ℕ
typed_opt_nodes None = 0
typed_opt_nodes (Some e) = typed_expr_nodes e

abbrev pub typed_target_nodes : TypedTarget → ℕ
typed_target_nodes t = 1 + typed_exprs_nodes t.indices

abbrev mutual
  pub act_nodes : TypedStmtKind → ℕ
  act_nodes (act.Block' n row) = 1 + acts_nodes row
  act_nodes (act.Declare v e) = 1 + typed_opt_nodes e
  act_nodes (act.Assign target op e) = 1 + typed_target_nodes target + typed_expr_nodes e
  act_nodes (act.Step target up) = 1 + typed_target_nodes target
  act_nodes (act.If' e b (more_of-TypedStmt s at end_of-TypedStmt) o) = 1 + typed_expr_nodes e + act_nodes s + held_act_nodes o
  act_nodes (act.While' e b (more_of-TypedStmt s at end_of-TypedStmt)) = 1 + typed_expr_nodes e + act_nodes s
  act_nodes (act.DoWhile' b (more_of-TypedStmt s at end_of-TypedStmt) e) = 1 + act_nodes s + typed_expr_nodes e
  act_nodes (act.For' n row e o b (more_of-TypedStmt s at end_of-TypedStmt)) =
      1 + acts_nodes row + typed_opt_nodes e + held_act_nodes o + act_nodes s
  act_nodes act.Break = 1
  act_nodes act.Continue = 1
  act_nodes (act.Return e) = 1 + typed_opt_nodes e
  act_nodes act.Empty = 1

  pub held_act_nodes : Held-TypedStmtKind-If-2 → ℕ
  held_act_nodes act.None' = 0
  held_act_nodes (act.Some' b (more_of-TypedStmt s at end_of-TypedStmt)) = act_nodes s

  pub acts_nodes : {n : Count} → Row_of-TypedStmt n → ℕ
  acts_nodes end_of-TypedStmt = 0
  acts_nodes (more_of-TypedStmt s at row) = act_nodes s + acts_nodes row

abbrev pub typed_stmt_nodes : TypedStmt → ℕ
typed_stmt_nodes s = act_nodes s.kind

abbrev pub typed_stmts_nodes : List TypedStmt → ℕ
typed_stmts_nodes ss = sum_by typed_stmt_nodes ss

abbrev pub typed_held_nodes : Option TypedStmt → ℕ
typed_held_nodes None = 0
typed_held_nodes (Some s) = typed_stmt_nodes s

abbrev pub typed_nodes : Typed → ℕ
typed_nodes k = 1 + params_nodes k.params + (1 + typed_stmts_nodes k.body)
