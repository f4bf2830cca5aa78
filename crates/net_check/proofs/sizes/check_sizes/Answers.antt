use Rattle.net_check.proofs.SizeLemmas.{summed_more, sizes_kept}
use Rattle.net_check.proofs.sizes.check_sizes.Goals as goal

pub loop-c-preserved : goal.loop-c-preserved
loop-c-preserved c =
    summed_more c.args.net.now c.as_slice-chan-items.result.now c.loop-c.together c.from.result _ c.loop-c.c c.is_sized.result c.as_slice-chan-items.ensures c.loop-c-test.true c.is_sized.ensures c.if-not-is_sized.false
    c.from.ensures c.saturating_add-together.ensures c.loop-c.invariant

pub returns : goal.returns
returns c = sizes_kept c.args.net.now c.as_slice-chan-items.result.now c.loop-c.together c.loop-c.c c.as_slice-chan-items.ensures c.loop-c-test.false c.loop-c.invariant c.if-together-gt-MAX_SUM_OF_SLOTS.false
