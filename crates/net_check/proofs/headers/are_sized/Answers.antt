use Rattle.std.proofs.Common.{arith}
use Rattle.net_check.proofs.TallyLemmas.{sized_more}
use Rattle.net_check.proofs.headers.are_sized.Goals as goal

pub loop-array-preserved : goal.loop-array-preserved
loop-array-preserved c = sized_more c.args.arrays.now c.loop-array.array-index c.array-item.result c.loop-array.rest c.loop-array-test.true c.array-item.is (omega arith) (omega arith) c.loop-array.invariant
