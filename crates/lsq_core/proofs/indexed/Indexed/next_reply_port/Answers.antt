use Rattle.std.proofs.Common.{sym, ap, ◌∙◌, arith}
use Rattle.lsq_core.specs.declared.entry.PortAct.TheVariants as port
use Rattle.lsq_core.proofs.AnswerLemmas.{answers_between, answers_none}
use Rattle.lsq_core.proofs.PortLemmas.{port_past}
use Rattle.lsq_core.proofs.indexed.Indexed.next_reply_port.Goals as goal

pub overflow_cast-row : goal.overflow_cast-row
overflow_cast-row c =
    let n = c.in-Some.ensures c.self.inside.head c.self.inside.entries.queue.items c.self.invariant.shows.answer in
    let l = n.below in
    let f = c.ranges.ports.fits in
    omega arith

pub overflow_cast-result : goal.overflow_cast-result
overflow_cast-result c =
    let n = c.in-Some.ensures c.self.inside.head c.self.inside.entries.queue.items c.self.invariant.shows.answer in
    let l = n.below in
    let f = c.ranges.ports.fits in
    omega arith

pub overflow_add-at : goal.overflow_add-at
overflow_add-at c =
    let n = c.in-Some.ensures c.self.inside.head c.self.inside.entries.queue.items c.self.invariant.shows.answer in
    let l = n.below in
    let f = c.ranges.ports.fits in
    omega arith

pub loop-row-smaller : goal.loop-row-smaller
loop-row-smaller c =
    let n = c.in-Some.ensures c.self.inside.head c.self.inside.entries.queue.items c.self.invariant.shows.answer in
    let l = n.below in
    let f = n.from_on in
    omega arith

pub returns-then-allows_at : goal.returns-then-allows_at
returns-then-allows_at c =
    let n = c.in-Some.ensures c.self.inside.head c.self.inside.entries.queue.items c.self.invariant.shows.answer in
    let f = n.from_on in
    let l = c.loop-row.invariant.lower in
    record {
      from_on = omega arith;
      here = sym c.allows_at.ensures ∙ c.if-allows_at.true;
      before = answers_between c.self.inside.index.answer c.self.inside.entries.queue.items c.args.self.now.queue.items c.args.from c.loop-row.at c.args.ports c.in-Some.row c.self.invariant.index.answer.kind
          (ap (λ v. v.queue.items) c.self.view_is) c.loop-row.invariant.none n;
    }

pub loop-row-preserved : goal.loop-row-preserved
loop-row-preserved c =
    let n = c.in-Some.ensures c.self.inside.head c.self.inside.entries.queue.items c.self.invariant.shows.answer in
    let f = n.from_on in
    let l = c.loop-row.invariant.lower in
    record {
      lower = omega arith;
      none = port_past port.Reply c.args.self.now.queue.items c.args.from c.in-Some.row c.allows_at.result
          (answers_between c.self.inside.index.answer c.self.inside.entries.queue.items c.args.self.now.queue.items c.args.from c.loop-row.at c.args.ports c.in-Some.row c.self.invariant.index.answer.kind
          (ap (λ v. v.queue.items) c.self.view_is) c.loop-row.invariant.none n) c.allows_at.ensures c.if-allows_at.false;
    }

pub returns : goal.returns
returns c =
    answers_none c.self.inside.index.answer c.self.inside.entries.queue.items c.args.self.now.queue.items c.args.from c.loop-row.at c.args.ports c.self.invariant.index.answer.kind (ap (λ v. v.queue.items) c.self.view_is)
    (rw c.requires c.len.ensures.ports) c.loop-row.invariant.none (c.in_default.ensures c.self.inside.head c.self.inside.entries.queue.items c.self.invariant.shows.answer)
