use Rattle.block_select.proofs.Lights.{selecting_more}
use Rattle.block_select.proofs.selecting.selected_blocks.Goals as goal

pub loop-at-preserved : goal.loop-at-preserved
loop-at-preserved c =
    selecting_more c.args.most c.args.blocks c.loop-at.blocks c.as_slice.result.now _ c.in_ok-block.block c.len-count.result c.loop-at.at c.requires.light c.loop-at-test.true c.loop-at.invariant c.as_slice.ensures
    c.in_ok-block.ensures c.with_block-blocks.ensures
