use Rattle.std.proofs.Common.{◌+◌, ◌≤◌, length, drop}
use Rattle.c_ast.specs.Nodes.{typed_exprs_nodes}
use Rattle.c_norm.specs.Code.{GoesOn}
use Rattle.c_norm.specs.Expand.{expand_all}
use Rattle.c_norm.proofs.expand.+expand.Given as goal

abbrev pub invariant-expand_all-loop-e : goal.invariant-expand_all-loop-e
invariant-expand_all-loop-e l = record {
  goes : GoesOn (expand_all (length l.vars) (drop l.e-index l.exprs)) (expand_all (length l.fn.vars) l.exprs) l.fn.before l.fn.vars l.before l.vars l.rests;
  room : length l.vars + typed_exprs_nodes (drop l.e-index l.exprs) ≤ length l.fn.vars + typed_exprs_nodes l.exprs;
}
