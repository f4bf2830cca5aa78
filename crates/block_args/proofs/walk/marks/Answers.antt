use Rattle.std.proofs.Common.{◌+◌, rules, sym, ◌∙◌, ap, drop}
use Rattle.std.proofs.lemmas.List.{at_drop_more, at_drop_all}
use Rattle.block_args.specs.Walks.{marked}
use Rattle.block_args.proofs.walk.marks.Goals as goal

pub loop-block-preserved : goal.loop-block-preserved
loop-block-preserved c =
    ap (λ m. marked m (drop (c.loop-block.block-index + 1) c.args.blocks.now)) c.mark.ensures
    ∙ sym (at_drop_more (marked c.loop-block.marks.items) c.args.blocks.now c.loop-block.block-index 0 c.loop-block-test.true) ∙ c.loop-block.invariant

pub returns : goal.returns
returns c =
    sym (at_drop_all (marked c.loop-block.marks.items) c.args.blocks.now c.loop-block.block-index c.loop-block-test.false)
    ∙ c.loop-block.invariant ∙ ap (λ m. marked m c.args.blocks.now) (search rules)
