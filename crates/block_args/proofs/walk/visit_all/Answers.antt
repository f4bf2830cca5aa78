use Rattle.std.proofs.Common.{◌+◌, sym, ◌∙◌, ap, drop}
use Rattle.std.proofs.lemmas.List.{at_drop_more, at_drop_all}
use Rattle.block_args.specs.Walks.{walk, visited_all}
use Rattle.block_args.proofs.walk.visit_all.Goals as goal

pub loop-block-preserved : goal.loop-block-preserved
loop-block-preserved c =
    ap (λ w. visited_all c.args.closed.now w (drop (c.loop-block.block-index + 1) c.args.blocks.now)) c.in_ok-visit.ensures
    ∙ sym (at_drop_more (visited_all c.args.closed.now (walk c.loop-block.seen.items c.loop-block.ahead.items)) c.args.blocks.now c.loop-block.block-index 0 c.loop-block-test.true)
    ∙ c.loop-block.invariant

pub returns : goal.returns
returns c =
    sym (at_drop_all (visited_all c.args.closed.now (walk c.loop-block.seen.items c.loop-block.ahead.items)) c.args.blocks.now c.loop-block.block-index c.loop-block-test.false)
    ∙ c.loop-block.invariant
