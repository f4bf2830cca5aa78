use Rattle.std.proofs.Common.{◌≡◌, ◌-◌, ◌^◌, min, sum_by, take}
use Rattle.c_calls.specs.Counts.{rest_expr_nodes}
use Rattle.c_inline.proofs.count.+rest.Given as goal

abbrev pub invariant-rests-loop-e : goal.invariant-rests-loop-e
invariant-rests-loop-e l = l.total ≡ min (sum_by rest_expr_nodes (take l.e-index l.exprs)) (2 ^ 64 - 1)
