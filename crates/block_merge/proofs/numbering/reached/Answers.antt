use Rattle.std.proofs.Common.{length, sym, ap, ◌∙◌}
use Rattle.std.specs.Prelude.{replicate}
use Rattle.block_merge.specs.Orders.{placed}
use Rattle.block_merge.proofs.PlaceLemmas.{blocks_few, all_within, found_few, found_within, reached_is, ok_same}
use Rattle.block_merge.proofs.numbering.reached.Goals as goal

pub found_blocks-requires-clause-few : goal.found_blocks-requires-clause-few
found_blocks-requires-clause-few c = blocks_few c.args.blocks.now c.requires.blocks

pub found_blocks-requires-clause-within : goal.found_blocks-requires-clause-within
found_blocks-requires-clause-within c = all_within c.args.blocks.now c.requires.blocks

pub places-requires-clause-few : goal.places-requires-clause-few
places-requires-clause-few c = found_few c.args.blocks.now c.as_slice.result.now c.requires.blocks (c.as_slice.ensures.value ∙ c.in_ok-found.ensures)

pub places-requires-clause-within : goal.places-requires-clause-within
places-requires-clause-within c = found_within c.args.blocks.now c.as_slice.result.now c.requires.blocks (c.as_slice.ensures.value ∙ c.in_ok-found.ensures)

pub listed-requires : goal.listed-requires
listed-requires c = found_within c.args.blocks.now c.as_slice-2.result.now c.requires.blocks (c.as_slice-2.ensures.value ∙ c.in_ok-found.ensures)

pub returns : goal.returns
returns c =
    ok_same c.listed.result _ _ c.listed.ensures
    (reached_is c.args.blocks.now c.as_slice-2.result.now c.as_slice-3.result.now c.requires.blocks (c.as_slice-2.ensures.value ∙ c.in_ok-found.ensures)
    (c.as_slice-3.ensures.value ∙ (c.in_ok-places.ensures ∙ ap (placed (replicate (length c.args.blocks.now) 0) 0) (c.as_slice.ensures.value ∙ sym c.as_slice-2.ensures.value))))
