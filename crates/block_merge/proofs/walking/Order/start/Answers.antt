use Rattle.std.proofs.Common.{sym, ◌∙◌}
use Rattle.block_merge.proofs.OrderLemmas.{unmarked_is, not_started, was_started, steps_are}
use Rattle.block_merge.proofs.walking.Order.start.Goals as goal

pub returns-in_ok-walk : goal.returns-in_ok-walk
returns-in_ok-walk c =
    was_started c.args.blocks.now c.args.self.now c.note.new.self c.walk.new.self c.args.number c.len-from.result
    (sym (unmarked_is c.args.blocks.now c.args.self.now c.args.number c.as_slice.result.now c.as_slice-2.result.now c.requires.order c.requires.arrays c.requires.block c.as_slice.ensures.value (steps_are c.args.blocks.now c.args.number c.index-blocks-at.result c.as_slice-2.result.now c.requires.block c.as_slice-2.ensures)) ∙ (sym c.stores_unmarked.ensures ∙ c.if-stores_unmarked.true))
    (c.len-from.ensures ∙ c.args.self.now.found.ok.0) c.in_ok-note.ensures c.in_ok-walk.ensures

pub returns-else-stores_unmarked : goal.returns-else-stores_unmarked
returns-else-stores_unmarked c =
    not_started c.args.blocks.now c.args.self.now c.args.number c.requires.order
    (sym (unmarked_is c.args.blocks.now c.args.self.now c.args.number c.as_slice.result.now c.as_slice-2.result.now c.requires.order c.requires.arrays c.requires.block c.as_slice.ensures.value (steps_are c.args.blocks.now c.args.number c.index-blocks-at.result c.as_slice-2.result.now c.requires.block c.as_slice-2.ensures)) ∙ (sym c.stores_unmarked.ensures ∙ c.if-stores_unmarked.false))
