use Rattle.std.proofs.Common.{◌≡◌, ◌-◌, ◌^◌, min, take}
use Rattle.c_ast.specs.Nodes.{typed_stmts_nodes}
use Rattle.kernel_graph.proofs.count.+typed_stmt_nodes.Given as goal

abbrev pub invariant-of_stmts-loop-stmt : goal.invariant-of_stmts-loop-stmt
invariant-of_stmts-loop-stmt l = l.total ≡ min (typed_stmts_nodes (take l.stmt-index l.stmts)) (2 ^ 64 - 1)
