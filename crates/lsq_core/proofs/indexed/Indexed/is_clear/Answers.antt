use Rattle.std.proofs.Common.{length, ap, arith}
use Rattle.lsq_core.specs.Index.{buckets}
use Rattle.lsq_core.proofs.IndexLemmas.{pending_below}
use Rattle.lsq_core.proofs.ExecLemmas.{clear_all, clear_before, clear_past}
use Rattle.lsq_core.proofs.indexed.Indexed.is_clear.Goals as goal

pub next-requires-clause-row : goal.next-requires-clause-row
next-requires-clause-row c =
    let b = pending_below (buckets c.self.inside.width) (record c.args.entry.now { store = c.args.side }) (let w = c.self.invariant.index.some in omega arith) in
    rw (c.address_row-row.ensures, c.self.invariant.index.pending.rows) b

pub is_clear_from-requires-clause-within : goal.is_clear_from-requires-clause-within
is_clear_from-requires-clause-within c =
    let len = ap length (ap (λ v. v.queue.items) c.self.view_is) in
    let n = c.in-Some.ensures c.self.inside.entries.queue.items c.self.invariant.shows.pending in
    let w = n.within in
    omega arith

pub is_clear_from-requires-clause-clear : goal.is_clear_from-requires-clause-clear
is_clear_from-requires-clause-clear c =
    clear_before c.self.inside.index.pending c.address_row-row.result c.in-Some.first c.args.side c.args.entry.now c.self.inside.entries.queue.items c.args.self.now.queue.items c.self.invariant.index.pending.kind
    c.address_row-row.ensures (ap (λ v. v.queue.items) c.self.view_is) (c.in-Some.ensures c.self.inside.entries.queue.items c.self.invariant.shows.pending)

pub returns-in-None : goal.returns-in-None
returns-in-None c =
    clear_all c.self.inside.index.pending c.address_row-row.result 0 c.args.side c.args.entry.now c.self.inside.entries.queue.items c.args.self.now.queue.items c.self.invariant.index.pending.kind
    c.address_row-row.ensures (ap (λ v. v.queue.items) c.self.view_is) (λ k l. absurd (omega arith)) (c.in-None.ensures c.self.inside.entries.queue.items c.self.invariant.shows.pending)

pub returns-then-serial_at-entry : goal.returns-then-serial_at-entry
returns-then-serial_at-entry c =
    clear_past c.self.inside.index.pending c.address_row-row.result c.in-Some.first c.args.side c.args.entry.now c.args.self.now.queue c.self.inside.entries.queue.items c.self.invariant.index.pending.kind
    c.address_row-row.ensures (ap (λ v. v.queue.items) c.self.view_is) c.serial_at.ensures.order (c.in-Some.ensures c.self.inside.entries.queue.items c.self.invariant.shows.pending) (rw (← c.serial_at.ensures.value) c.if-serial_at-entry.true)
