-- One name for what opens the rows of the trees of programs: where it is unfolded, a tree that is written with lists computes.
use denote.Hole.Carrier.{hidden}
use Rattle.c_ast.specs.declared.program.ProgExprKind.TheBlock.{shape-the_row-ProgExpr-0, hidden-the_row-ProgExpr-0, shape-the_row-ProgExpr-1, hidden-the_row-ProgExpr-1}
use Rattle.c_ast.specs.declared.program.ProgStmtKind.TheBlock.{shape-the_row-ProgStmt-0, hidden-the_row-ProgStmt-0, shape-the_row-ProgStmt-1, hidden-the_row-ProgStmt-1}

unfoldable pub prog_expr_rows : Unit {0}
unfolding shape-the_row-ProgExpr-0 hidden-the_row-ProgExpr-0 shape-the_row-ProgExpr-1 hidden-the_row-ProgExpr-1 hidden
prog_expr_rows = tt

unfoldable pub prog_stmt_rows : Unit {0}
unfolding shape-the_row-ProgStmt-0 hidden-the_row-ProgStmt-0 shape-the_row-ProgStmt-1 hidden-the_row-ProgStmt-1 hidden
prog_stmt_rows = tt

unfoldable pub prog_rows : Unit {0}
unfolding prog_expr_rows prog_stmt_rows
prog_rows = tt
