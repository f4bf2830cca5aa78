-- Private: the part of a typed tree that is the same as a part of a typed program.
-- A kernel without helpers has no call, so it does not matter what a call becomes: it is written as the number 0.
use Rattle.std.specs.Prelude.{List, map, option_map}
use Rattle.c_ast.specs.declared.program.ProgExpr.{ProgExpr, fold-ProgExpr}
use Rattle.c_ast.specs.declared.program.ProgExprKind.{ProgExprKind, fold-ProgExprKind}
use Rattle.c_ast.specs.declared.program.ProgExprKind.TheOpen.{ProgExprKind-F, Number, Var, Element, Unary, Cast, Binary, Choose, Call}
use Rattle.c_ast.specs.declared.program.ProgTarget.{ProgTarget}
use Rattle.c_ast.specs.declared.program.ProgStmt.{ProgStmt, fold-ProgStmt}
use Rattle.c_ast.specs.declared.program.ProgStmtKind.{ProgStmtKind, fold-ProgStmtKind}
use Rattle.c_ast.specs.declared.program.ProgStmtKind.TheOpen.{ProgStmtKind-F, Block, Declare, Assign, Step, If, While, DoWhile, For, Break, Continue, Return, Empty}
use Rattle.c_ast.specs.declared.typed.TypedExpr.{TypedExpr}
use Rattle.c_ast.specs.declared.typed.TypedExprKind.{TypedExprKind}
use Rattle.c_ast.specs.declared.typed.TypedExprKind.TheVariants as typed
use Rattle.c_ast.specs.declared.typed.TypedTarget.{TypedTarget}
use Rattle.c_ast.specs.declared.typed.TypedStmt.{TypedStmt}
use Rattle.c_ast.specs.declared.typed.TypedStmtKind.{TypedStmtKind}
use Rattle.c_ast.specs.declared.typed.TypedStmtKind.TheVariants as act
use Rattle.c_ast.specs.Casts.{of_type, act_at}

-- one expression, with what each part becomes in its place
abbrev pub expr_step : ProgExprKind-F TypedExprKind TypedExpr → TypedExprKind
expr_step (Number n) = typed.Number n
expr_step (Var v) = typed.Var v
expr_step (Element a indices) = typed.Element a indices
expr_step (Unary op arg) = typed.Unary op arg
expr_step (Cast implied arg) = typed.Cast implied arg
expr_step (Binary op left right) = typed.Binary op left right
expr_step (Choose cond yes_part no_part) = typed.Choose cond yes_part no_part
expr_step (Call helper args) = typed.Number 0

abbrev pub typed_kind : ProgExprKind → TypedExprKind
typed_kind = fold-ProgExprKind TypedExprKind TypedExpr expr_step (λ e. of_type e.kind e.ty e.at)

abbrev pub typed_expr : ProgExpr → TypedExpr
typed_expr = fold-ProgExpr TypedExprKind TypedExpr expr_step (λ e. of_type e.kind e.ty e.at)

abbrev pub typed_exprs : List ProgExpr → List TypedExpr
typed_exprs es = map typed_expr es

abbrev pub typed_target : ProgTarget → TypedTarget
typed_target t = record { to = t.to; at = t.at; indices = typed_exprs t.indices }

-- one statement, with what each part becomes in its place
abbrev pub stmt_step : ProgStmtKind-F TypedStmtKind TypedStmt → TypedStmtKind
stmt_step (Block body) = act.Block body
stmt_step (Declare v init) = act.Declare v (option_map typed_expr init)
stmt_step (Assign target op value) = act.Assign (typed_target target) op (typed_expr value)
stmt_step (Step target up) = act.Step (typed_target target) up
stmt_step (If cond yes_part no_part) = act.If (typed_expr cond) yes_part no_part
stmt_step (While cond body) = act.While (typed_expr cond) body
stmt_step (DoWhile body cond) = act.DoWhile body (typed_expr cond)
stmt_step (For first cond step body) = act.For first (option_map typed_expr cond) step body
stmt_step Break = act.Break
stmt_step Continue = act.Continue
stmt_step (Return value) = act.Return (option_map typed_expr value)
stmt_step Empty = act.Empty

abbrev pub typed_act : ProgStmtKind → TypedStmtKind
typed_act = fold-ProgStmtKind TypedStmtKind TypedStmt stmt_step (λ s. act_at s.kind s.at)

abbrev pub typed_stmt : ProgStmt → TypedStmt
typed_stmt = fold-ProgStmt TypedStmtKind TypedStmt stmt_step (λ s. act_at s.kind s.at)

abbrev pub typed_stmts : List ProgStmt → List TypedStmt
typed_stmts ss = map typed_stmt ss
