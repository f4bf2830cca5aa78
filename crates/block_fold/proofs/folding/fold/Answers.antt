use Rattle.std.proofs.Common.{map, ◌∙◌, ap}
use Rattle.block_fold.specs.Folded.{folded_block}
use Rattle.block_fold.proofs.Keeping.{back_of}
use Rattle.block_fold.proofs.folding.fold.Goals as goal

pub returns-clause-back : goal.returns-clause-back
returns-clause-back c =
    back_of c.args.graph.now _ c.in_ok-copy.field-0 c.in_ok-copy_scalars.field-0 c.in_ok-copy_arrays.field-0 c.in_ok-blocks.blocks c.look.ensures.fine c.folded_graphs_pass.ensures c.graph.view_is
    c.in_ok-copy.ensures (c.in_ok-copy_scalars.ensures ∙ c.as_slice.ensures) (c.in_ok-copy_arrays.ensures ∙ c.as_slice-2.ensures) (c.in_ok-blocks.ensures ∙ ap (map folded_block) c.look.ensures.blocks)
