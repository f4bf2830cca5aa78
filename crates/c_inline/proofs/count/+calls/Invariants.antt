use Rattle.std.proofs.Common.{◌≡◌, ◌-◌, ◌^◌, min, sum_by, take}
use Rattle.c_calls.specs.Counts.{calls_expr_nodes}
use Rattle.c_inline.proofs.count.+calls.Given as goal

abbrev pub invariant-calls_all-loop-e : goal.invariant-calls_all-loop-e
invariant-calls_all-loop-e l = l.total ≡ min (sum_by (calls_expr_nodes l.blocks) (take l.e-index l.exprs)) (2 ^ 64 - 1)
