use Rattle.std.proofs.Common.{◌+◌, ◌≤◌, length, drop}
use Rattle.c_ast.specs.Nodes.{typed_exprs_nodes}
use Rattle.c_norm.specs.Code.{GoesOn}
use Rattle.c_norm.specs.Expand.{set_all}
use Rattle.c_norm.proofs.assignments.set_all.Given as goal

abbrev pub invariant-loop-e : goal.invariant-loop-e
invariant-loop-e l = record {
  goes : GoesOn (set_all (length l.vars) (drop l.e-index l.exprs)) (set_all (length l.fn.vars) l.exprs) l.fn.before l.fn.vars l.before l.vars l.rests;
  room : length l.vars + typed_exprs_nodes (drop l.e-index l.exprs) ≤ length l.fn.vars + typed_exprs_nodes l.exprs;
}
