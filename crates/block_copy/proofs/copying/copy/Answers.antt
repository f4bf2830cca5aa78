use Rattle.std.proofs.Common.{◌∙◌}
use Rattle.block_copy.proofs.Keeping.{starts_small, graph_made, passes_of}
use Rattle.block_copy.proofs.copying.copy.Goals as goal

pub copied_blocks-requires : goal.copied_blocks-requires
copied_blocks-requires c = starts_small c.args.graph.now c.in_ok-blocks.blocks c.look.ensures.fine c.requires (c.in_ok-blocks.ensures ∙ c.look.ensures.blocks)

pub invariant_of-result : goal.invariant_of-result
invariant_of-result c =
    let g = c.args.graph.now in
    let e = graph_made c.args.most g _ c.in_ok-copy.field-0 c.in_ok-copy_scalars.field-0 c.in_ok-copy_arrays.field-0 c.in_ok-blocks.blocks c.in_ok-copied_blocks.field-0 c.graph.view_is c.in_ok-copy.ensures
    (c.in_ok-copy_scalars.ensures ∙ c.as_slice.ensures) (c.in_ok-copy_arrays.ensures ∙ c.as_slice-2.ensures) (c.in_ok-blocks.ensures ∙ c.look.ensures.blocks) c.in_ok-copied_blocks.ensures in
    (passes_of c.args.most g _ c.copied_graphs_pass.ensures c.look.ensures.fine e).share.fine

pub returns-clause-copied : goal.returns-clause-copied
returns-clause-copied c =
    let g = c.args.graph.now in
    graph_made c.args.most g _ c.in_ok-copy.field-0 c.in_ok-copy_scalars.field-0 c.in_ok-copy_arrays.field-0 c.in_ok-blocks.blocks c.in_ok-copied_blocks.field-0 c.graph.view_is c.in_ok-copy.ensures
    (c.in_ok-copy_scalars.ensures ∙ c.as_slice.ensures) (c.in_ok-copy_arrays.ensures ∙ c.as_slice-2.ensures) (c.in_ok-blocks.ensures ∙ c.look.ensures.blocks) c.in_ok-copied_blocks.ensures

pub returns-clause-share : goal.returns-clause-share
returns-clause-share c =
    let g = c.args.graph.now in
    let e = graph_made c.args.most g _ c.in_ok-copy.field-0 c.in_ok-copy_scalars.field-0 c.in_ok-copy_arrays.field-0 c.in_ok-blocks.blocks c.in_ok-copied_blocks.field-0 c.graph.view_is c.in_ok-copy.ensures
    (c.in_ok-copy_scalars.ensures ∙ c.as_slice.ensures) (c.in_ok-copy_arrays.ensures ∙ c.as_slice-2.ensures) (c.in_ok-blocks.ensures ∙ c.look.ensures.blocks) c.in_ok-copied_blocks.ensures in
    (passes_of c.args.most g _ c.copied_graphs_pass.ensures c.look.ensures.fine e).share

pub returns-clause-back : goal.returns-clause-back
returns-clause-back c =
    let g = c.args.graph.now in
    let e = graph_made c.args.most g _ c.in_ok-copy.field-0 c.in_ok-copy_scalars.field-0 c.in_ok-copy_arrays.field-0 c.in_ok-blocks.blocks c.in_ok-copied_blocks.field-0 c.graph.view_is c.in_ok-copy.ensures
    (c.in_ok-copy_scalars.ensures ∙ c.as_slice.ensures) (c.in_ok-copy_arrays.ensures ∙ c.as_slice-2.ensures) (c.in_ok-blocks.ensures ∙ c.look.ensures.blocks) c.in_ok-copied_blocks.ensures in
    (passes_of c.args.most g _ c.copied_graphs_pass.ensures c.look.ensures.fine e).back
