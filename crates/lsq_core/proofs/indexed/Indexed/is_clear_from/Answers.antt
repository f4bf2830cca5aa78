use Rattle.std.proofs.Common.{not, length, sym, ap, ◌∙◌, arith}
use Rattle.lsq_core.specs.Index.{buckets, clear}
use Rattle.lsq_core.proofs.IndexLemmas.{pending_below}
use Rattle.lsq_core.proofs.ExecLemmas.{clear_more, clear_all}
use Rattle.lsq_core.proofs.indexed.Indexed.is_clear_from.Goals as goal

pub next-requires-clause-row : goal.next-requires-clause-row
next-requires-clause-row c =
    let b = pending_below (buckets c.self.inside.width) (record c.args.entry.now { store = c.args.side }) (let w = c.self.invariant.index.some in omega arith) in
    rw (c.address_row-row.ensures, c.self.invariant.index.pending.rows) b

pub loop-at-preserved : goal.loop-at-preserved
loop-at-preserved c =
    let is = ap (λ v. v.queue.items) c.self.view_is in
    let n = c.in-Some.ensures c.self.inside.entries.queue.items c.self.invariant.shows.pending in
    record {
      clear = clear_more c.self.inside.index.pending c.address_row-row.result c.loop-at.from c.in-Some.at c.args.side c.args.entry.now c.self.inside.entries.queue.items c.args.self.now.queue.items c.self.invariant.index.pending.kind
          c.address_row-row.ensures is c.loop-at.invariant.clear n (sym (ap (λ o. not (clear c.args.side c.args.entry.now o)) c.at.ensures.value) ∙ sym c.is_in_way.ensures ∙ c.if-is_in_way.false);
      some = (let len = ap length is in let w = n.within in omega arith);
    }

pub returns : goal.returns
returns c =
    clear_all c.self.inside.index.pending c.address_row-row.result c.loop-at.from c.args.side c.args.entry.now c.self.inside.entries.queue.items c.args.self.now.queue.items c.self.invariant.index.pending.kind c.address_row-row.ensures
    (ap (λ v. v.queue.items) c.self.view_is) c.loop-at.invariant.clear (c.in_default.ensures c.self.inside.entries.queue.items c.self.invariant.shows.pending)
