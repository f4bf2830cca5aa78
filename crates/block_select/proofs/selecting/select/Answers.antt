use Rattle.std.proofs.Common.{◌∙◌}
use Rattle.block_select.proofs.Lights.{graph_made, passes_of}
use Rattle.block_select.proofs.selecting.select.Goals as goal

pub invariant_of-result : goal.invariant_of-result
invariant_of-result c =
    let g = c.args.graph.now in
    let e = graph_made c.args.most g _ c.in_ok-copy.field-0 c.in_ok-copy_scalars.field-0 c.in_ok-copy_arrays.field-0 c.in_ok-selected_blocks.field-0 c.in_ok-blocks.blocks c.graph.view_is c.in_ok-copy.ensures
    (c.in_ok-copy_scalars.ensures ∙ c.as_slice.ensures) (c.in_ok-copy_arrays.ensures ∙ c.as_slice-2.ensures) (c.in_ok-blocks.ensures ∙ c.look.ensures.blocks) c.in_ok-selected_blocks.ensures in
    (passes_of c.args.most g _ c.look.ensures.fine e).share.fine

pub returns-clause-share : goal.returns-clause-share
returns-clause-share c =
    let g = c.args.graph.now in
    let e = graph_made c.args.most g _ c.in_ok-copy.field-0 c.in_ok-copy_scalars.field-0 c.in_ok-copy_arrays.field-0 c.in_ok-selected_blocks.field-0 c.in_ok-blocks.blocks c.graph.view_is c.in_ok-copy.ensures
    (c.in_ok-copy_scalars.ensures ∙ c.as_slice.ensures) (c.in_ok-copy_arrays.ensures ∙ c.as_slice-2.ensures) (c.in_ok-blocks.ensures ∙ c.look.ensures.blocks) c.in_ok-selected_blocks.ensures in
    (passes_of c.args.most g _ c.look.ensures.fine e).share

pub returns-clause-back : goal.returns-clause-back
returns-clause-back c =
    let g = c.args.graph.now in
    let e = graph_made c.args.most g _ c.in_ok-copy.field-0 c.in_ok-copy_scalars.field-0 c.in_ok-copy_arrays.field-0 c.in_ok-selected_blocks.field-0 c.in_ok-blocks.blocks c.graph.view_is c.in_ok-copy.ensures
    (c.in_ok-copy_scalars.ensures ∙ c.as_slice.ensures) (c.in_ok-copy_arrays.ensures ∙ c.as_slice-2.ensures) (c.in_ok-blocks.ensures ∙ c.look.ensures.blocks) c.in_ok-selected_blocks.ensures in
    (passes_of c.args.most g _ c.look.ensures.fine e).back
