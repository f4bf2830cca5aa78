use Rattle.block_merge.proofs.OrderLemmas.{noted_new, unseen_is, steps_are}
use Rattle.block_merge.proofs.walking.Order.note.Goals as goal

pub returns-in_ok-push : goal.returns-in_ok-push
returns-in_ok-push c =
    noted_new c.args.blocks.now c.args.self.now _ c.args.number c.as_slice.result.now c.requires.order c.requires.within (unseen_is c.args.blocks.now c.args.self.now c.args.number c.index.result.now c.requires.order c.requires.within c.index.ensures c.if-not-index.true) (steps_are c.args.blocks.now c.args.number c.index-blocks-at.result c.as_slice.result.now c.requires.within c.as_slice.ensures)
    c.in_ok-push.ensures.items c.mark.ensures c.mark_stores.ensures
