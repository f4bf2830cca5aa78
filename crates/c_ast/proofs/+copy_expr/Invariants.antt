use Rattle.std.proofs.Common.{◌≡◌, take}
use Rattle.c_ast.proofs.+copy_expr.Given as goal

abbrev pub invariant-copies::copy_exprs-loop-expr : goal.invariant-copies::copy_exprs-loop-expr
invariant-copies::copy_exprs-loop-expr l = l.copies ≡ take l.expr-index l.exprs
