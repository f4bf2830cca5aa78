use Rattle.std.proofs.Common.{◌≤◌}
use Rattle.c_ast.specs.declared.typed.TypedExpr.{size-TypedExpr}
use Rattle.c_ast.proofs.typed.TypedExpr.+drop.Given as goal

abbrev pub invariant-loop-op : goal.invariant-loop-op
invariant-loop-op l = size-TypedExpr l.self ≤ size-TypedExpr l.initial.self
