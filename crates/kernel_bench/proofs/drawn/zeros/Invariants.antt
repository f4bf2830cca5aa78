use Rattle.std.proofs.Common.{◌≡◌, replicate}
use Rattle.kernel_bench.proofs.drawn.zeros.Given as goal

abbrev pub invariant-loop-count : goal.invariant-loop-count
invariant-loop-count l = l.list ≡ replicate l._count 0
