use Rattle.std.proofs.Common.{◌≡◌, Some, refl, sym, ap, ◌∙◌}
use Rattle.std.specs.List.{find}
use Rattle.lsq_core.specs.Acts.{is_serial, first_changed, executed, exec_value}
use Rattle.lsq_core.proofs.ViewLemmas.{view_is}
use Rattle.lsq_core.proofs.lsq.Lsq.execute.Goals as goal

pub returns-in-Some-clause-queue : goal.returns-in-Some-clause-queue
returns-in-Some-clause-queue c =
    let f : find (is_serial c.args.serial) c.self.inside.entries.queue.items ≡ Some c.in-Some.entry = sym c.first.ensures ∙ c.in-Some.is in
    rw (← c.self.view_is, f)
    (view_is _ _ c.change.ensures.mark c.change.ensures.next
    (c.change.ensures.items
    ∙ ap (λ v. first_changed (is_serial c.args.serial) (executed v) c.self.inside.entries.queue.items) (c.value-value.ensures ∙ ap (λ q. exec_value q.array q.queue.items c.in-Some.entry) (sym c.self.view_is)))
    c.write.ensures refl refl refl)
