use Rattle.std.proofs.Common.{◌≡◌, ◌+◌, ◌-◌, ◌≤◌, ◌^◌, min, take}
use Rattle.c_ast.specs.Nodes.{expr_nodes, exprs_nodes}
use Rattle.c_ast.specs.declared.tree.Expr.{size-Expr}
use Rattle.c_ast.proofs.count.+expr_nodes.Given as goal

abbrev pub invariant-of_exprs-loop-expr : goal.invariant-of_exprs-loop-expr
invariant-of_exprs-loop-expr l = l.total ≡ min (exprs_nodes (take l.expr-index l.exprs)) (2 ^ 64 - 1)

abbrev pub invariant-of_expr-left : goal.invariant-of_expr-left
invariant-of_expr-left l = (size-Expr l.first ≤ size-Expr l.expr) × (min (l.total + expr_nodes l.first) (2 ^ 64 - 1) ≡ min (expr_nodes l.expr) (2 ^ 64 - 1))
