use Rattle.std.proofs.Common.{sym, subst, ◌∙◌}
use Rattle.block_copy.specs.Fits.{AreSmall}
use Rattle.block_copy.proofs.Keeping.{copying_starts, copying_next, copying_ends, set_is, stays_is}
use Rattle.block_copy.proofs.Standing.{Given}
use Rattle.block_copy.proofs.copying.copied_blocks.Goals.{in-Some, in-None}
use Rattle.block_copy.proofs.copying.copied_blocks.Goals as goal

pub loop-at-init : goal.loop-at-init
loop-at-init c = copying_starts c.args.most c.args.blocks c.len-count.result c.requires c.len-count.ensures

pub copied_at-requires-clause-blocks : goal.copied_at-requires-clause-blocks
copied_at-requires-clause-blocks c = subst AreSmall (sym c.as_slice.ensures) c.loop-at.invariant.are

pub loop-at-preserved : goal.loop-at-preserved
loop-at-preserved c =
    let law : Given = record {
      itself = c.passes_go_on.ensures.itself;
      on = c.passes_go_on.ensures.on;
      back = c.passes_go_on.ensures.back;
      one = c.block_by_block.ensures.one;
      fold = c.folded_blocks_keep.ensures;
    } in
    elim c.match-branch-2.branch [
      | in-Some w ↦
          copying_next law c.args.most c.args.blocks c.loop-at.blocks c.match-branch-2.blocks c.len-count.result c.loop-at.at c.loop-at-test.true c.loop-at.invariant
          (set_is c.args.most c.loop-at.blocks c.as_slice.result.now c.match-branch-2.blocks c.loop-at.at c.in_ok-block.field-0 w.in-Some.block c.as_slice.ensures c.in_ok-block.ensures w.in-Some.is (w.blocks-is ∙ w.set.ensures))
      | in-None w ↦
          copying_next law c.args.most c.args.blocks c.loop-at.blocks c.match-branch-2.blocks c.len-count.result c.loop-at.at c.loop-at-test.true c.loop-at.invariant
          (stays_is c.args.most c.loop-at.blocks c.as_slice.result.now c.match-branch-2.blocks c.loop-at.at c.in_ok-block.field-0 c.as_slice.ensures c.in_ok-block.ensures w.in-None.is w.blocks-is)
    ]

pub returns : goal.returns
returns c = copying_ends c.args.most c.args.blocks c.loop-at.blocks c.len-count.result c.loop-at.at c.loop-at-test.false c.loop-at.invariant
