use Rattle.std.proofs.Common.{◌≡◌, ◌+◌, ◌-◌, ◌^◌, min, sum, take}
use Rattle.kernel_graph.proofs.count.node.Given as goal

abbrev pub invariant-loop-part : goal.invariant-loop-part
invariant-loop-part l = l.total ≡ min (1 + sum (take l.part-index l.parts)) (2 ^ 64 - 1)
