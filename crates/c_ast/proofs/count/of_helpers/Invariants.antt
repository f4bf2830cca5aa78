use Rattle.std.proofs.Common.{◌≡◌, ◌-◌, ◌^◌, min, take}
use Rattle.c_ast.specs.Programs.{helpers_nodes}
use Rattle.c_ast.proofs.count.of_helpers.Given as goal

abbrev pub invariant-loop-helper : goal.invariant-loop-helper
invariant-loop-helper l = l.total ≡ min (helpers_nodes (take l.helper-index l.helpers)) (2 ^ 64 - 1)
