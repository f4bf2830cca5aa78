use Rattle.std.proofs.Common.{ap}
use Rattle.lsq_core.proofs.ExecLemmas.{filled_none, filled_some}
use Rattle.lsq_core.proofs.indexed.Indexed.is_filled.Goals as goal

pub returns-in-None : goal.returns-in-None
returns-in-None c =
    filled_none c.self.inside.index.blank c.args.side c.row_of_side.result c.args.entry.now c.self.inside.entries.queue.items c.args.self.now.queue.items c.self.invariant.index.blank.kind c.row_of_side.ensures.value
    (ap (λ v. v.queue.items) c.self.view_is) (c.in-None.ensures c.self.inside.entries.queue.items c.self.invariant.shows.blank)

pub returns-else-serial_at-entry : goal.returns-else-serial_at-entry
returns-else-serial_at-entry c =
    filled_some c.self.inside.index.blank c.args.side c.row_of_side.result c.in-Some.at c.args.entry.now c.args.self.now.queue c.self.inside.entries.queue.items c.self.invariant.index.blank.kind c.row_of_side.ensures.value
    (ap (λ v. v.queue.items) c.self.view_is) c.serial_at.ensures.order (c.in-Some.ensures c.self.inside.entries.queue.items c.self.invariant.shows.blank) (rw (← c.serial_at.ensures.value) c.if-serial_at-entry.false)
