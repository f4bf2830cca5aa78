use Rattle.std.proofs.Common.{◌≡◌, ◌∙◌, ap, List, Option, Some, None, subst, sym}
use Rattle.net_worker.specs.Merged.{earliest}
use Rattle.worker_run.specs.private.Orders.{IsNextOf, IsLeft, head_as, head_if, rests_of}
use Rattle.worker_run.proofs.OrderLemmas.{next_none, next_some, taken}
use Rattle.worker_run.proofs.order.Rests.next_firing.Goals as goal

pub returns-in_err-first : goal.returns-in_err-first
returns-in_err-first c =
    let rests = rests_of c.args.self.now in
    let none : earliest 0 rests ≡ None = sym c.first.ensures.is ∙ ap (head_if rests) c.in_err-first.was in
    subst (λ o. IsNextOf o rests rests) (sym c.from_residual.ensures) (next_none rests rests none)

pub returns : goal.returns
returns c =
    let rests = rests_of c.args.self.now in
    let l = c.in_ok-first.first in
    let within = subst (IsLeft rests) c.in_ok-first.was c.first.ensures.left in
    let first : earliest 0 rests ≡ Some (head_as rests l) = sym c.first.ensures.is ∙ ap (head_if rests) c.in_ok-first.was in
    next_some rests _ (head_as rests l) first
    (taken rests c.deref_mut.result.now l c.index-deref_mut-first.result c.next.new.self c.next.result c.deref_mut.ensures.value within c.index-deref_mut-first.is c.next.ensures.steps)
