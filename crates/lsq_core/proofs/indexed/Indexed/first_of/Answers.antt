use Rattle.std.proofs.Common.{length, ap, arith}
use Rattle.lsq_core.proofs.ExecLemmas.{runs_found, runs_more, runs_none, runs_stopped}
use Rattle.lsq_core.proofs.indexed.Indexed.first_of.Goals as goal

pub returns-then-executes : goal.returns-then-executes
returns-then-executes c =
    runs_found c.self.inside.index.ready c.args.side c.args.self.now.queue.forward c.row_of_side.result 0 c.in-Some.first c.at-entry.result c.executes.result c.self.inside.entries.queue.items c.args.self.now.queue.items c.self.invariant.index.ready.kind c.row_of_side.ensures.value (ap (λ v. v.queue.items) c.self.view_is)
    (λ k l. absurd (omega arith)) (c.in-Some.ensures c.self.inside.entries.queue.items c.self.invariant.shows.ready) c.at-entry.ensures.value c.executes.ensures c.if-executes.true

pub returns-then-not-is_reached : goal.returns-then-not-is_reached
returns-then-not-is_reached c =
    runs_stopped c.self.inside.index.ready c.args.side c.args.self.now.queue.forward c.row_of_side.result 0 c.in-Some.first c.at-entry.result c.is_reached.result c.args.self.now.queue c.self.inside.entries.queue.items c.self.invariant.index.ready.kind c.row_of_side.ensures.value (ap (λ v. v.queue.items) c.self.view_is)
    c.at-entry.ensures.order (λ k l. absurd (omega arith)) (c.in-Some.ensures c.self.inside.entries.queue.items c.self.invariant.shows.ready) c.at-entry.ensures.value c.is_reached.ensures c.if-not-is_reached.true

pub first_from-requires-clause-none : goal.first_from-requires-clause-none
first_from-requires-clause-none c =
    runs_more c.self.inside.index.ready c.args.side c.args.self.now.queue.forward c.row_of_side.result 0 c.in-Some.first c.at-entry.result c.executes.result c.self.inside.entries.queue.items c.args.self.now.queue.items c.self.invariant.index.ready.kind c.row_of_side.ensures.value (ap (λ v. v.queue.items) c.self.view_is)
    (λ k l. absurd (omega arith)) (c.in-Some.ensures c.self.inside.entries.queue.items c.self.invariant.shows.ready) c.at-entry.ensures.value c.executes.ensures c.if-executes.false

pub first_from-requires-clause-within : goal.first_from-requires-clause-within
first_from-requires-clause-within c =
    let len = ap length (ap (λ v. v.queue.items) c.self.view_is) in
    let n = c.in-Some.ensures c.self.inside.entries.queue.items c.self.invariant.shows.ready in
    let w = n.within in
    omega arith

pub returns-in-None : goal.returns-in-None
returns-in-None c =
    runs_none c.self.inside.index.ready c.args.side c.args.self.now.queue.forward c.row_of_side.result 0 c.self.inside.entries.queue.items c.args.self.now.queue.items c.self.invariant.index.ready.kind c.row_of_side.ensures.value
    (ap (λ v. v.queue.items) c.self.view_is) (λ k l. absurd (omega arith)) (c.in-None.ensures c.self.inside.entries.queue.items c.self.invariant.shows.ready)
