use Rattle.std.proofs.Common.{◌≡◌, ◌-◌, ◌^◌, min, take}
use Rattle.c_ast.specs.Nodes.{typed_exprs_nodes}
use Rattle.kernel_graph.proofs.count.+typed_expr_nodes.Given as goal

abbrev pub invariant-of_exprs-loop-expr : goal.invariant-of_exprs-loop-expr
invariant-of_exprs-loop-expr l = l.total ≡ min (typed_exprs_nodes (take l.expr-index l.exprs)) (2 ^ 64 - 1)
