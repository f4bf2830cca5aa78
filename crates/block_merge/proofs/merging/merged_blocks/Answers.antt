use Rattle.std.proofs.Common.{length, refl, ap, ◌∙◌}
use Rattle.ir.specs.Graphs.{Graph}
use Rattle.block_merge.proofs.PlaceLemmas.{start_of, reach_of, join_of, are_of, within_arrays, passes_are, ok_same}
use Rattle.block_merge.proofs.merging.merged_blocks.Goals as goal

pub reached-requires-clause-blocks : goal.reached-requires-clause-blocks
reached-requires-clause-blocks c =
    let g = c.args.graph.now in
    are_of g c.in_ok-onward.onward c.as_slice.result.now (start_of g c.in_ok-onward.onward c.look-blocks.result.now c.look-blocks.ensures.fine c.requires c.look-blocks.ensures.blocks c.in_ok-onward.ensures) c.as_slice.ensures

pub reached-requires-clause-arrays : goal.reached-requires-clause-arrays
reached-requires-clause-arrays c =
    let g = c.args.graph.now in
    within_arrays g c.in_ok-onward.onward c.as_slice.result.now c.len-arrays.result (start_of g c.in_ok-onward.onward c.look-blocks.result.now c.look-blocks.ensures.fine c.requires c.look-blocks.ensures.blocks c.in_ok-onward.ensures)
    c.as_slice.ensures (c.len-arrays.ensures ∙ ap (λ (x : Graph). length x.arrays) c.graph.view_is)

pub all_joined-requires : goal.all_joined-requires
all_joined-requires c =
    let g = c.args.graph.now in
    let s = start_of g c.in_ok-onward.onward c.look-blocks.result.now c.look-blocks.ensures.fine c.requires c.look-blocks.ensures.blocks c.in_ok-onward.ensures in
    (reach_of g c.in_ok-onward.onward c.as_slice.result.now c.in_ok-found.found c.requires s c.as_slice.ensures c.in_ok-found.ensures).are

pub reached-requires-2-clause-blocks : goal.reached-requires-2-clause-blocks
reached-requires-2-clause-blocks c =
    let g = c.args.graph.now in
    let s = start_of g c.in_ok-onward.onward c.look-blocks.result.now c.look-blocks.ensures.fine c.requires c.look-blocks.ensures.blocks c.in_ok-onward.ensures in
    let t = reach_of g c.in_ok-onward.onward c.as_slice.result.now c.in_ok-found.found c.requires s c.as_slice.ensures c.in_ok-found.ensures in
    are_of g c.in_ok-rows.rows c.as_slice-2.result.now (join_of g c.in_ok-found.found c.in_ok-rows.rows c.requires t c.in_ok-rows.ensures) c.as_slice-2.ensures

pub reached-requires-2-clause-arrays : goal.reached-requires-2-clause-arrays
reached-requires-2-clause-arrays c =
    let g = c.args.graph.now in
    let s = start_of g c.in_ok-onward.onward c.look-blocks.result.now c.look-blocks.ensures.fine c.requires c.look-blocks.ensures.blocks c.in_ok-onward.ensures in
    let t = reach_of g c.in_ok-onward.onward c.as_slice.result.now c.in_ok-found.found c.requires s c.as_slice.ensures c.in_ok-found.ensures in
    within_arrays g c.in_ok-rows.rows c.as_slice-2.result.now c.len-arrays.result (join_of g c.in_ok-found.found c.in_ok-rows.rows c.requires t c.in_ok-rows.ensures) c.as_slice-2.ensures
    (c.len-arrays.ensures ∙ ap (λ (x : Graph). length x.arrays) c.graph.view_is)

pub returns : goal.returns
returns c =
    let g = c.args.graph.now in
    ok_same c.reached-2.result _ _ c.reached-2.ensures
    (passes_are g.blocks c.in_ok-onward.onward c.as_slice.result.now c.in_ok-found.found c.in_ok-rows.rows c.as_slice-2.result.now _ c.look-blocks.result.now c.look-blocks.ensures.blocks c.in_ok-onward.ensures
    c.as_slice.ensures c.in_ok-found.ensures c.in_ok-rows.ensures c.as_slice-2.ensures refl)
