use Rattle.std.proofs.Common.{◌≡◌, ℕ, None, Some, true, option_map, length, ap, arith}
use Rattle.lsq_core.specs.Views.{entry_at}
use Rattle.lsq_core.specs.Index.{buckets}
use Rattle.lsq_core.proofs.IndexLemmas.{pending_below}
use Rattle.lsq_core.proofs.ExecLemmas.{source_none, source_more, source_all, younger_entry, younger_within}
use Rattle.lsq_core.proofs.indexed.Indexed.place_of_source_from.Goals as goal

pub next-requires-clause-row : goal.next-requires-clause-row
next-requires-clause-row c =
    let b = pending_below (buckets c.self.inside.width) (record c.args.load.now { store = true }) (let w = c.self.invariant.index.some in omega arith) in
    rw (c.address_row-row.ensures, c.self.invariant.index.pending.rows) b

pub loop-at-init : goal.loop-at-init
loop-at-init c = record {
  found = source_none c.args.load.now c.args.self.now.queue.items c.args.first c.requires.none;
  within = λ at none. absurd (some_none at none);
  some = (let w = c.requires.within in omega arith);
}
  where
    some_none : (at : ℕ) → None ≡ Some at → ⊥
    some_none at e = cc

pub loop-at-preserved : goal.loop-at-preserved
loop-at-preserved c =
    let is = ap (λ v. v.queue.items) c.self.view_is in
    let len = ap length is in
    let n = c.in-Some.ensures c.self.inside.entries.queue.items c.self.invariant.shows.pending in
    let w = n.within in
    record {
      found = source_more c.self.inside.index.pending c.address_row-row.result c.loop-at.from c.in-Some.at c.args.load.now (option_map (entry_at c.args.self.now.queue.items) c.loop-at.found) (option_map (entry_at c.args.self.now.queue.items) c.younger-found.result)
          c.self.inside.entries.queue.items c.args.self.now.queue.items c.self.invariant.index.pending.kind c.address_row-row.ensures is c.loop-at.invariant.found n
          (younger_entry c.args.load.now c.args.self.now.queue.items c.in-Some.at c.at.result c.waits_before.result c.loop-at.found c.younger-found.result c.at.ensures.value c.waits_before.ensures c.younger-found.ensures);
      within = younger_within c.waits_before.result (length c.args.self.now.queue.items) c.in-Some.at c.loop-at.found c.younger-found.result c.younger-found.ensures (omega arith) c.loop-at.invariant.within;
      some = omega arith;
    }

pub returns-clause-entry : goal.returns-clause-entry
returns-clause-entry c =
    source_all c.self.inside.index.pending c.address_row-row.result c.loop-at.from c.args.load.now (option_map (entry_at c.args.self.now.queue.items) c.loop-at.found) c.self.inside.entries.queue.items c.args.self.now.queue.items c.self.invariant.index.pending.kind
    c.address_row-row.ensures (ap (λ v. v.queue.items) c.self.view_is) c.loop-at.invariant.found c.loop-at.invariant.some (c.in_default.ensures c.self.inside.entries.queue.items c.self.invariant.shows.pending)
