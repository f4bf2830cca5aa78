use Rattle.std.proofs.Common.{length, refl, ap, arith}
use Rattle.lsq_core.specs.Index.{reached}
use Rattle.lsq_core.proofs.BehindLemmas.{failed_none, failed_before, failed_more, open_row}
use Rattle.lsq_core.proofs.ExecLemmas.{runs_found, runs_more, runs_none, runs_stopped}
use Rattle.lsq_core.proofs.indexed.Indexed.first_from.Goals as goal

pub loop-at-init : goal.loop-at-init
loop-at-init c = record {
  none = c.requires.none;
  some = (let w = c.requires.within in omega arith);
  last = failed_none c.args.side c.args.self.now.queue c.args.first c.fresh-last.result c.fresh-last.ensures;
}

pub executes_after-requires : goal.executes_after-requires
executes_after-requires c = λ some.
    let n = c.in-Some.ensures c.self.inside.entries.queue.items c.self.invariant.shows.ready in
    let is = ap (λ v. v.queue.items) c.self.view_is in
    let len = ap length is in
    let w = n.within in
    let f = n.from_on in
    failed_before c.args.side c.args.self.now.queue c.loop-at.from c.in-Some.at c.loop-at.last c.at-entry.result c.at-entry.ensures.order (c.loop-at.invariant.last some) (omega arith) (omega arith) c.at-entry.ensures.value
    (open_row c.self.inside.index.ready c.args.side c.row_of_side-row.result c.loop-at.from c.in-Some.at c.at-entry.result c.self.inside.entries.queue.items c.args.self.now.queue.items c.self.invariant.index.ready.kind c.row_of_side-row.ensures.value is n c.at-entry.ensures.value)

pub returns-then-executes_after : goal.returns-then-executes_after
returns-then-executes_after c =
    runs_found c.self.inside.index.ready c.args.side c.args.self.now.queue.forward c.row_of_side-row.result c.loop-at.from c.in-Some.at c.at-entry.result c.executes_after.result c.self.inside.entries.queue.items c.args.self.now.queue.items c.self.invariant.index.ready.kind c.row_of_side-row.ensures.value (ap (λ v. v.queue.items) c.self.view_is) c.loop-at.invariant.none
    (c.in-Some.ensures c.self.inside.entries.queue.items c.self.invariant.shows.ready) c.at-entry.ensures.value c.executes_after.ensures c.if-executes_after.true

pub returns-then-not-may_be_reached : goal.returns-then-not-may_be_reached
returns-then-not-may_be_reached c =
    runs_stopped c.self.inside.index.ready c.args.side c.args.self.now.queue.forward c.row_of_side-row.result c.loop-at.from c.in-Some.at c.at-entry.result (reached c.args.side c.args.self.now.queue.items c.at-entry.result) c.args.self.now.queue c.self.inside.entries.queue.items c.self.invariant.index.ready.kind c.row_of_side-row.ensures.value (ap (λ v. v.queue.items) c.self.view_is)
    c.at-entry.ensures.order c.loop-at.invariant.none (c.in-Some.ensures c.self.inside.entries.queue.items c.self.invariant.shows.ready) c.at-entry.ensures.value refl (c.may_be_reached.ensures c.if-not-may_be_reached.true)

pub loop-at-preserved : goal.loop-at-preserved
loop-at-preserved c =
    let n = c.in-Some.ensures c.self.inside.entries.queue.items c.self.invariant.shows.ready in
    let is = ap (λ v. v.queue.items) c.self.view_is in
    let len = ap length is in
    let w = n.within in
    record {
      none = runs_more c.self.inside.index.ready c.args.side c.args.self.now.queue.forward c.row_of_side-row.result c.loop-at.from c.in-Some.at c.at-entry.result c.executes_after.result c.self.inside.entries.queue.items c.args.self.now.queue.items c.self.invariant.index.ready.kind c.row_of_side-row.ensures.value is c.loop-at.invariant.none
          n c.at-entry.ensures.value c.executes_after.ensures c.if-executes_after.false;
      some = omega arith;
      last = λ _. failed_more c.args.side c.args.self.now.queue c.in-Some.at c.at-entry.result c.executes_after.result (omega arith) c.at-entry.ensures.value
          (open_row c.self.inside.index.ready c.args.side c.row_of_side-row.result c.loop-at.from c.in-Some.at c.at-entry.result c.self.inside.entries.queue.items c.args.self.now.queue.items c.self.invariant.index.ready.kind c.row_of_side-row.ensures.value is n c.at-entry.ensures.value)
          c.executes_after.ensures c.if-executes_after.false;
    }

pub returns : goal.returns
returns c = runs_none c.self.inside.index.ready c.args.side c.args.self.now.queue.forward c.row_of_side-row.result c.loop-at.from c.self.inside.entries.queue.items c.args.self.now.queue.items c.self.invariant.index.ready.kind c.row_of_side-row.ensures.value (ap (λ v. v.queue.items) c.self.view_is) c.loop-at.invariant.none (c.in_default.ensures c.self.inside.entries.queue.items c.self.invariant.shows.ready)
