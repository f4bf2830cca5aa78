use Rattle.block_merge.proofs.PartLemmas.{rows_start, next_row}
use Rattle.block_merge.proofs.joining.all_joined.Goals as goal

pub loop-at-init : goal.loop-at-init
loop-at-init c = rows_start c.args.blocks c.as_slice.result.now c.in_ok-counts.counts.items c.len-count.result c.requires c.as_slice.ensures c.in_ok-counts.ensures c.len-count.ensures

pub loop-at-preserved : goal.loop-at-preserved
loop-at-preserved c = next_row c.args.blocks c.loop-at.blocks c.in_ok-blocks.blocks c.in_ok-counts.counts.items c.len-count.result c.loop-at.at c.loop-at-test.true c.loop-at.invariant c.in_ok-blocks.ensures
