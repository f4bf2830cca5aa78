-- One name for what opens the rows of trees: where it is unfolded, a tree that is written with lists computes.
use denote.Hole.Carrier.{hidden}
use Rattle.c_ast.specs.declared.tree.ExprKind.TheBlock.{shape-the_row-Expr-0, hidden-the_row-Expr-0, shape-the_row-Expr-1, hidden-the_row-Expr-1}
use Rattle.c_ast.specs.declared.tree.StmtKind.TheBlock.{shape-the_row-Stmt-0, hidden-the_row-Stmt-0, shape-the_row-Stmt-1, hidden-the_row-Stmt-1}

unfoldable pub tree_rows : Unit {0}
unfolding shape-the_row-Expr-0 hidden-the_row-Expr-0 shape-the_row-Expr-1 hidden-the_row-Expr-1 shape-the_row-Stmt-0 hidden-the_row-Stmt-0 shape-the_row-Stmt-1 hidden-the_row-Stmt-1 hidden
tree_rows = tt
