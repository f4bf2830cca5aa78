use Rattle.std.proofs.Common.{◌≡◌, ◌-◌, ◌^◌, min, take}
use Rattle.c_ast.specs.Nodes.{params_nodes}
use Rattle.kernel_graph.proofs.count.of_params.Given as goal

abbrev pub invariant-loop-param : goal.invariant-loop-param
invariant-loop-param l = l.total ≡ min (params_nodes (take l.param-index l.params)) (2 ^ 64 - 1)
