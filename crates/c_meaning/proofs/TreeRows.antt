-- One name for what opens the rows of each kind of tree: where it is unfolded, a tree that is written with lists computes.
use denote.Hole.Carrier.{hidden}
use Rattle.c_ast.specs.declared.tree.ExprKind.TheBlock.{shape-the_row-Expr-0, hidden-the_row-Expr-0, shape-the_row-Expr-1, hidden-the_row-Expr-1}
use Rattle.c_ast.specs.declared.tree.StmtKind.TheBlock.{shape-the_row-Stmt-0, hidden-the_row-Stmt-0, shape-the_row-Stmt-1, hidden-the_row-Stmt-1}
use Rattle.c_ast.specs.declared.typed.TypedExprKind.TheBlock.{shape-the_row-TypedExpr-0, hidden-the_row-TypedExpr-0, shape-the_row-TypedExpr-1, hidden-the_row-TypedExpr-1}
use Rattle.c_ast.specs.declared.typed.TypedStmtKind.TheBlock.{shape-the_row-TypedStmt-0, hidden-the_row-TypedStmt-0, shape-the_row-TypedStmt-1, hidden-the_row-TypedStmt-1}
use Rattle.c_ast.specs.declared.normal.NormalStmtKind.TheBlock.{shape-the_row-NormalStmt-0, hidden-the_row-NormalStmt-0, shape-the_row-NormalStmt-1, hidden-the_row-NormalStmt-1}

unfoldable pub expr_rows : Unit {0}
unfolding shape-the_row-Expr-0 hidden-the_row-Expr-0 shape-the_row-Expr-1 hidden-the_row-Expr-1 hidden
expr_rows = tt

unfoldable pub stmt_rows : Unit {0}
unfolding shape-the_row-Stmt-0 hidden-the_row-Stmt-0 shape-the_row-Stmt-1 hidden-the_row-Stmt-1 hidden
stmt_rows = tt

unfoldable pub typed_expr_rows : Unit {0}
unfolding shape-the_row-TypedExpr-0 hidden-the_row-TypedExpr-0 shape-the_row-TypedExpr-1 hidden-the_row-TypedExpr-1 hidden
typed_expr_rows = tt

unfoldable pub typed_stmt_rows : Unit {0}
unfolding shape-the_row-TypedStmt-0 hidden-the_row-TypedStmt-0 shape-the_row-TypedStmt-1 hidden-the_row-TypedStmt-1 hidden
typed_stmt_rows = tt

unfoldable pub normal_rows : Unit {0}
unfolding shape-the_row-NormalStmt-0 hidden-the_row-NormalStmt-0 shape-the_row-NormalStmt-1 hidden-the_row-NormalStmt-1 hidden
normal_rows = tt

unfoldable pub typed_rows : Unit {0}
unfolding typed_expr_rows typed_stmt_rows
typed_rows = tt

unfoldable pub all_rows : Unit {0}
unfolding typed_rows normal_rows
all_rows = tt
