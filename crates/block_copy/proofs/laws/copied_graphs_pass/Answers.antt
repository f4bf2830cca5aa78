use Rattle.block_copy.proofs.CopiedPasses.{copied_passes}
use Rattle.block_copy.proofs.laws.copied_graphs_pass.Goals as goal

pub returns : goal.returns
returns c most g fine =
    copied_passes (record {
      itself = c.passes_go_on.ensures.itself;
      on = c.passes_go_on.ensures.on;
      back = c.passes_go_on.ensures.back;
      one = c.block_by_block.ensures.one;
      fold = c.folded_blocks_keep.ensures;
    }) most g fine
