use Rattle.std.proofs.Common.{sym, ◌∙◌}
use Rattle.block_copy.proofs.Following.{growing_starts, growing_next, growing_ends, growing_done}
use Rattle.block_copy.proofs.growing.grown.Goals as goal

pub loop-count-init : goal.loop-count-init
loop-count-init c = growing_starts c.args.blocks.now c.args.at c.args.limit c.args.growth c.args.turns c.requires

pub loop-count-preserved : goal.loop-count-preserved
loop-count-preserved c =
    growing_next c.args.blocks.now c.args.at c.args.limit c.args.growth c.loop-count.growth c.args.turns c.loop-count.count c.loop-count.invariant c.folded_blocks_keep.ensures c.in-Goes.next c.loop-count-test.true
    (sym c.in-Goes.is ∙ c.in_ok-best.ensures)

pub returns-in-Ends : goal.returns-in-Ends
returns-in-Ends c =
    growing_ends c.args.blocks.now c.args.at c.args.limit c.args.growth c.loop-count.growth c.args.turns c.loop-count.count c.loop-count.invariant c.in-Ends.best c.loop-count-test.true (sym c.in-Ends.is ∙ c.in_ok-best.ensures)

pub returns : goal.returns
returns c = growing_done c.args.blocks.now c.args.at c.args.limit c.args.growth c.loop-count.growth c.args.turns c.loop-count.count c.loop-count.invariant c.loop-count-test.false
