use Rattle.std.proofs.Common.{◌≡◌, ◌-◌, ◌^◌, min, sum_by, take}
use Rattle.c_inline.specs.Code.{declared_nodes}
use Rattle.c_inline.proofs.count.declared.Given as goal

abbrev pub invariant-loop-arg : goal.invariant-loop-arg
invariant-loop-arg l = l.total ≡ min (sum_by declared_nodes (take l.arg-index l.args)) (2 ^ 64 - 1)
