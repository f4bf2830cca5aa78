use Rattle.std.proofs.Common.{◌≡◌, ◌+◌, ◌-◌, ◌^◌, min, sum, take}
use Rattle.c_ast.proofs.count.node.Given as goal

abbrev pub invariant-loop-part : goal.invariant-loop-part
invariant-loop-part l = l.total ≡ min (1 + sum (take l.part-index l.parts)) (2 ^ 64 - 1)
