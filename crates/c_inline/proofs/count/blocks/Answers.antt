use Rattle.std.proofs.Common.{◌-◌, ◌^◌, min, ap, ◌∙◌}
use Rattle.c_calls.specs.Counts.{block_nodes}
use Rattle.c_inline.proofs.Stopped.{block_next}
use Rattle.c_inline.proofs.count.blocks.Goals as goal

pub loop-helper-preserved : goal.loop-helper-preserved
loop-helper-preserved c =
    block_next c.args.helpers.now c.loop-helper.helper-index c.helper-item.result _ _ _ c.loop-helper-test.true c.helper-item.is c.loop-helper.invariant
    (c.of_block-block.ensures ∙ ap (λ l. min (block_nodes l c.helper-item.result) (2 ^ 64 - 1)) c.as_slice.ensures) c.in_ok-push.ensures.ok
