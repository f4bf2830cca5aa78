use Rattle.std.proofs.Common.{◌-◌}
use Rattle.block_merge.proofs.PartLemmas.{row_takes, row_more, row_done}
use Rattle.block_merge.proofs.joining.row_joined.Goals as goal

pub take_in-requires : goal.take_in-requires
take_in-requires c =
    row_takes c.args.blocks c.loop-joins.blocks c.as_slice.result.now c.args.counts.now c.args.at (c.len-count.result - c.loop-joins.joins) c.in-Some.next c.loop-joins.invariant c.as_slice.ensures c.in-Some.ensures

pub returns-in-None : goal.returns-in-None
returns-in-None c =
    row_done c.args.blocks c.loop-joins.blocks c.as_slice.result.now c.args.counts.now c.args.at (c.len-count.result - c.loop-joins.joins) c.loop-joins.invariant c.as_slice.ensures c.in-None.ensures

pub loop-joins-preserved : goal.loop-joins-preserved
loop-joins-preserved c =
    row_more c.args.blocks c.loop-joins.blocks c.as_slice.result.now c.in_ok-blocks-in-Some.blocks c.args.counts.now c.args.at c.len-count.result c.loop-joins.joins c.in-Some.next c.loop-joins-test.true c.loop-joins.invariant
    c.as_slice.ensures c.in-Some.ensures c.in_ok-blocks-in-Some.ensures
