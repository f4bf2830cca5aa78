use Rattle.std.proofs.Common.{arith}
use Rattle.kernel_bench.proofs.Filling.{weights_all}
use Rattle.kernel_bench.proofs.drawn.weights.Goals as goal

pub returns : goal.returns
returns c = weights_all c.loop-i.i c.loop-i.list c.loop-i.invariant (omega (arith, c.loop-i-test.false, c.loop-i.auto.i-end))
