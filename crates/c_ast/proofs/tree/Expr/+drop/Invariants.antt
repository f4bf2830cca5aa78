use Rattle.std.proofs.Common.{◌≤◌}
use Rattle.c_ast.specs.declared.tree.Expr.{size-Expr}
use Rattle.c_ast.proofs.tree.Expr.+drop.Given as goal

abbrev pub invariant-loop-op : goal.invariant-loop-op
invariant-loop-op l = size-Expr l.self ≤ size-Expr l.initial.self
