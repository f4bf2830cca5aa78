use Rattle.std.proofs.Common.{◌≡◌, take}
use Rattle.c_types.specs.TypedParts.{typed_exprs}
use Rattle.c_types.proofs.typed_parts.+typed_expr.Given as goal

abbrev pub invariant-typed_exprs-loop-expr : goal.invariant-typed_exprs-loop-expr
invariant-typed_exprs-loop-expr l = l.items ≡ typed_exprs (take l.expr-index l.exprs)
