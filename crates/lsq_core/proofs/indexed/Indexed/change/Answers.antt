use Rattle.std.proofs.Common.{ℕ, refl, sym, ap, subst, ◌∙◌, set, length, arith}
use Rattle.lsq_core.specs.declared.entry.Entry.{Entry}
use Rattle.lsq_core.specs.Views.{entry_at}
use Rattle.lsq_core.specs.Wants.{wanted, changed_by}
use Rattle.lsq_core.specs.Index.{IsIndex}
use Rattle.lsq_core.proofs.IndexLemmas.{port_within}
use Rattle.lsq_core.proofs.PlaceLemmas.{change_here, change_none}
use Rattle.lsq_core.proofs.indexed.Indexed.change.Goals as goal

pub change-requires : goal.change-requires
change-requires c =
    let i = c.self.invariant.index in
    let s = c.self.invariant.shows.addr in
    let is = ap (λ v. v.queue.items) c.self.view_is in
    let len = ap length is in
    let w = c.in-Some.ensures.within in
    let p = port_within c.self.inside.index.addr c.self.inside.head c.in-Some.at c.self.inside.entries.ports c.self.inside.width c.self.inside.entries.queue.items i.addr s (omega arith) in
    let here = ap (λ xs. (entry_at xs c.in-Some.at).port) is in
    let old = ap (λ (x : Entry). x.port) c.alter-old.ensures.was in
    let most = s.most in
    let P : ℕ → Type 0 = λ r. IsIndex r c.self.inside.width c.self.inside.index in
    let Q : ℕ → Type 0 = λ w. IsIndex c.self.inside.index.addr.rows w c.self.inside.index in
    (subst Q (sym i.addr.width) (subst P (sym i.addr.rows) i), (s.within, (omega arith, omega arith)))

pub returns-in-Some-clause-items : goal.returns-in-Some-clause-items
returns-in-Some-clause-items c =
    c.alter-old.ensures.items ∙ ap (λ e. set e.queue.items c.in-Some.at (changed_by c.args.made (entry_at e.queue.items c.in-Some.at))) c.self.view_is
    ∙ change_here (wanted c.args.want) (changed_by c.args.made) c.args.self.now.queue.items c.in-Some.at (entry_at c.args.self.now.queue.items c.in-Some.at) (changed_by c.args.made (entry_at c.args.self.now.queue.items c.in-Some.at)) c.in-Some.ensures refl refl

pub returns-in_default-clause-items : goal.returns-in_default-clause-items
returns-in_default-clause-items c = sym (change_none (wanted c.args.want) (changed_by c.args.made) c.args.self.now.queue.items c.in_default.ensures)
