use Rattle.std.proofs.Common.{true, length, ap, arith}
use Rattle.lsq_core.specs.Index.{buckets}
use Rattle.lsq_core.proofs.IndexLemmas.{pending_below}
use Rattle.lsq_core.proofs.ExecLemmas.{waits_none, waits_before, waits_past}
use Rattle.lsq_core.proofs.indexed.Indexed.place_of_source.Goals as goal

pub next-requires-clause-row : goal.next-requires-clause-row
next-requires-clause-row c =
    let b = pending_below (buckets c.self.inside.width) (record c.args.load.now { store = true }) (let w = c.self.invariant.index.some in omega arith) in
    rw (c.address_row-row.ensures, c.self.invariant.index.pending.rows) b

pub place_of_source_from-requires-clause-within : goal.place_of_source_from-requires-clause-within
place_of_source_from-requires-clause-within c =
    let len = ap length (ap (λ v. v.queue.items) c.self.view_is) in
    let n = c.in-Some.ensures c.self.inside.entries.queue.items c.self.invariant.shows.pending in
    let w = n.within in
    omega arith

pub place_of_source_from-requires-clause-none : goal.place_of_source_from-requires-clause-none
place_of_source_from-requires-clause-none c =
    waits_before c.self.inside.index.pending c.address_row-row.result c.in-Some.first c.args.load.now c.self.inside.entries.queue.items c.args.self.now.queue.items c.self.invariant.index.pending.kind
    c.address_row-row.ensures (ap (λ v. v.queue.items) c.self.view_is) (c.in-Some.ensures c.self.inside.entries.queue.items c.self.invariant.shows.pending)

pub returns-in-None-clause-entry : goal.returns-in-None-clause-entry
returns-in-None-clause-entry c =
    waits_none c.self.inside.index.pending c.address_row-row.result c.args.load.now c.self.inside.entries.queue.items c.args.self.now.queue.items c.self.invariant.index.pending.kind
    c.address_row-row.ensures (ap (λ v. v.queue.items) c.self.view_is) (c.in-None.ensures c.self.inside.entries.queue.items c.self.invariant.shows.pending)

pub returns-then-serial_at-load-clause-entry : goal.returns-then-serial_at-load-clause-entry
returns-then-serial_at-load-clause-entry c =
    waits_past c.self.inside.index.pending c.address_row-row.result c.in-Some.first c.args.load.now c.args.self.now.queue c.self.inside.entries.queue.items c.self.invariant.index.pending.kind
    c.address_row-row.ensures (ap (λ v. v.queue.items) c.self.view_is) c.serial_at.ensures.order (c.in-Some.ensures c.self.inside.entries.queue.items c.self.invariant.shows.pending) (rw (← c.serial_at.ensures.value) c.if-serial_at-load.true)
