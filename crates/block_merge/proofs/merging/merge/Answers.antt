use Rattle.std.proofs.Common.{◌∙◌}
use Rattle.block_merge.proofs.PlaceLemmas.{graph_made, share_of}
use Rattle.block_merge.proofs.merging.merge.Goals as goal

pub invariant_of-result : goal.invariant_of-result
invariant_of-result c =
    let g = c.args.graph.now in
    let e = graph_made g _ c.in_ok-copy.field-0 c.in_ok-copy_scalars.field-0 c.in_ok-copy_arrays.field-0 c.in_ok-merged_blocks.field-0 c.graph.view_is c.in_ok-copy.ensures (c.in_ok-copy_scalars.ensures ∙ c.as_slice.ensures)
    (c.in_ok-copy_arrays.ensures ∙ c.as_slice-2.ensures) c.in_ok-merged_blocks.ensures in
    (share_of g _ c.look-blocks.ensures.fine e).fine

pub returns-clause-share : goal.returns-clause-share
returns-clause-share c =
    let g = c.args.graph.now in
    let e = graph_made g _ c.in_ok-copy.field-0 c.in_ok-copy_scalars.field-0 c.in_ok-copy_arrays.field-0 c.in_ok-merged_blocks.field-0 c.graph.view_is c.in_ok-copy.ensures (c.in_ok-copy_scalars.ensures ∙ c.as_slice.ensures)
    (c.in_ok-copy_arrays.ensures ∙ c.as_slice-2.ensures) c.in_ok-merged_blocks.ensures in
    share_of g _ c.look-blocks.ensures.fine e
