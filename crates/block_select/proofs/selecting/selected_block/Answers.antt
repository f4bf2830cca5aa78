use Rattle.std.proofs.Common.{◌∙◌}
use Rattle.block_select.proofs.Lights.{block_same, block_at_is, args_at_is, end_within, go_first, go_second, few_numbers, yes_as_long, no_as_long, made_is}
use Rattle.block_select.proofs.selecting.selected_block.Goals as goal

pub along-requires : goal.along-requires
along-requires c = go_first c.args.blocks.now c.args.at c.args.cond c.args.yes.now c.args.no.now c.args.found c.requires c.in_ok-block.block (block_at_is c.args.blocks.now c.args.at c.index-blocks-at.result c.in_ok-block.block c.requires.within c.index-blocks-at.is c.in_ok-block.ensures)

pub along-requires-2 : goal.along-requires-2
along-requires-2 c = go_second c.args.blocks.now c.args.at c.args.cond c.args.yes.now c.args.no.now c.args.found c.requires c.in_ok-block.block (block_at_is c.args.blocks.now c.args.at c.index-blocks-at.result c.in_ok-block.block c.requires.within c.index-blocks-at.is c.in_ok-block.ensures) c.in_ok-first.first c.in_ok-first.ensures

pub bounds-blocks-found : goal.bounds-blocks-found
bounds-blocks-found c = end_within c.args.blocks.now c.args.at c.args.cond c.args.yes.now c.args.no.now c.args.found c.requires

pub choosing-requires-clause-few : goal.choosing-requires-clause-few
choosing-requires-clause-few c = few_numbers c.args.blocks.now c.args.at c.args.cond c.args.yes.now c.args.no.now c.args.found c.requires c.in_ok-block.block (block_at_is c.args.blocks.now c.args.at c.index-blocks-at.result c.in_ok-block.block c.requires.within c.index-blocks-at.is c.in_ok-block.ensures) c.in_ok-first.first c.in_ok-first.ensures c.in_ok-both.both c.in_ok-both.ensures c.as_slice-widths.result.now c.as_slice.result.now c.as_slice-2.result.now (c.as_slice-widths.ensures ∙ args_at_is c.args.blocks.now c.args.found.block c.index-blocks-found.result (end_within c.args.blocks.now c.args.at c.args.cond c.args.yes.now c.args.no.now c.args.found c.requires)) (c.as_slice.ensures ∙ c.in_ok-yes_values.ensures) (c.as_slice-2.ensures ∙ c.in_ok-no_values.ensures)

pub choosing-requires-clause-yes : goal.choosing-requires-clause-yes
choosing-requires-clause-yes c = yes_as_long c.args.blocks.now c.args.at c.args.cond c.args.yes.now c.args.no.now c.args.found c.requires c.in_ok-block.block (block_at_is c.args.blocks.now c.args.at c.index-blocks-at.result c.in_ok-block.block c.requires.within c.index-blocks-at.is c.in_ok-block.ensures) c.in_ok-first.first c.in_ok-first.ensures c.in_ok-both.both c.in_ok-both.ensures c.as_slice-widths.result.now c.as_slice.result.now c.as_slice-2.result.now (c.as_slice-widths.ensures ∙ args_at_is c.args.blocks.now c.args.found.block c.index-blocks-found.result (end_within c.args.blocks.now c.args.at c.args.cond c.args.yes.now c.args.no.now c.args.found c.requires)) (c.as_slice.ensures ∙ c.in_ok-yes_values.ensures) (c.as_slice-2.ensures ∙ c.in_ok-no_values.ensures)

pub choosing-requires-clause-no : goal.choosing-requires-clause-no
choosing-requires-clause-no c = no_as_long c.args.blocks.now c.args.at c.args.cond c.args.yes.now c.args.no.now c.args.found c.requires c.in_ok-block.block (block_at_is c.args.blocks.now c.args.at c.index-blocks-at.result c.in_ok-block.block c.requires.within c.index-blocks-at.is c.in_ok-block.ensures) c.in_ok-first.first c.in_ok-first.ensures c.in_ok-both.both c.in_ok-both.ensures c.as_slice-widths.result.now c.as_slice.result.now c.as_slice-2.result.now (c.as_slice-widths.ensures ∙ args_at_is c.args.blocks.now c.args.found.block c.index-blocks-found.result (end_within c.args.blocks.now c.args.at c.args.cond c.args.yes.now c.args.no.now c.args.found c.requires)) (c.as_slice.ensures ∙ c.in_ok-yes_values.ensures) (c.as_slice-2.ensures ∙ c.in_ok-no_values.ensures)

pub returns : goal.returns
returns c = block_same c.choosing.result _ _ c.choosing.ensures (made_is c.args.blocks.now c.args.at c.args.cond c.args.yes.now c.args.no.now c.args.found c.requires c.in_ok-block.block (block_at_is c.args.blocks.now c.args.at c.index-blocks-at.result c.in_ok-block.block c.requires.within c.index-blocks-at.is c.in_ok-block.ensures) c.in_ok-first.first c.in_ok-first.ensures c.in_ok-both.both c.in_ok-both.ensures c.as_slice-widths.result.now c.as_slice.result.now c.as_slice-2.result.now (c.as_slice-widths.ensures ∙ args_at_is c.args.blocks.now c.args.found.block c.index-blocks-found.result (end_within c.args.blocks.now c.args.at c.args.cond c.args.yes.now c.args.no.now c.args.found c.requires)) (c.as_slice.ensures ∙ c.in_ok-yes_values.ensures) (c.as_slice-2.ensures ∙ c.in_ok-no_values.ensures))
