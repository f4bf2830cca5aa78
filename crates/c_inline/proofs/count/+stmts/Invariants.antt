use Rattle.std.proofs.Common.{◌≡◌, ◌-◌, ◌^◌, min, take}
use Rattle.c_calls.specs.Counts.{inlined_list_nodes}
use Rattle.c_inline.proofs.count.+stmts.Given as goal

abbrev pub invariant-of_stmts-loop-stmt : goal.invariant-of_stmts-loop-stmt
invariant-of_stmts-loop-stmt l = l.total ≡ min (inlined_list_nodes l.blocks (take l.stmt-index l.stmts)) (2 ^ 64 - 1)
