use Rattle.std.proofs.Common.{arith}
use Rattle.block_trim.proofs.Marking.{low_at}
use Rattle.block_trim.proofs.numbers.Numbers.new.Goals as goal

pub invariant_of-result : goal.invariant_of-result
invariant_of-result c =
    let l = c.loop-is_used in low_at c.args.marks.now l.of_reads.items l.kept l.is_used-index (omega arith) l.invariant.numbers l.invariant.after
