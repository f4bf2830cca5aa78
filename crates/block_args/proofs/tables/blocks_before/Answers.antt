use Rattle.std.proofs.Common.{arith, sym, ◌∙◌}
use Rattle.std.proofs.lemmas.List.{at_drop_all}
use Rattle.block_args.specs.Walks.{target_blocks, with_blocks}
use Rattle.block_args.proofs.Listing.{blocks_next}
use Rattle.block_args.proofs.tables.blocks_before.Goals as goal

pub loop-block-preserved : goal.loop-block-preserved
loop-block-preserved c = record {
  counted = omega arith;
  put =
      blocks_next target_blocks c.loop-block.table c.put_at_targets.new.table c.loop-block.number c.loop-block.block-index c.args.blocks.now c.block-item.result c.loop-block-test.true c.block-item.is
      c.in_ok-put_at_targets.ensures
      ∙ c.loop-block.invariant.put;
}

pub returns : goal.returns
returns c = sym (at_drop_all (with_blocks target_blocks c.loop-block.table c.loop-block.number) c.args.blocks.now c.loop-block.block-index c.loop-block-test.false) ∙ c.loop-block.invariant.put
