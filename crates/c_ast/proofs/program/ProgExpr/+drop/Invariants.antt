use Rattle.std.proofs.Common.{◌≤◌}
use Rattle.c_ast.specs.declared.program.ProgExpr.{size-ProgExpr}
use Rattle.c_ast.proofs.program.ProgExpr.+drop.Given as goal

abbrev pub invariant-loop-op : goal.invariant-loop-op
invariant-loop-op l = size-ProgExpr l.self ≤ size-ProgExpr l.initial.self
