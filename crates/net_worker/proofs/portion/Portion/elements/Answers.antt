use Rattle.std.proofs.Common.{[], get_or, ap, sym, ◌∙◌}
use Rattle.net_core.specs.States.{arrays_of, home_at}
use Rattle.net_worker.proofs.PortionLemmas.{base_elements, queue_elements}
use Rattle.net_worker.proofs.portion.Portion.elements.Goals as goal

pub returns-in-Some : goal.returns-in-Some
returns-in-Some c =
    c.elements.ensures ∙ queue_elements c.self.inside c.self.invariant c.args.self.now c.self.view_is c.args.array c.in-Some-Queue.unit c.in-Some.at c.index.result.now
    (ap (λ b. home_at b c.args.array) (sym c.deref.ensures) ∙ (sym c.in-Some-Queue.ensures.1 ∙ c.in-Some-Queue.field-0-is)) c.in-Some.ensures.some c.index.ensures

pub returns-in-None : goal.returns-in-None
returns-in-None c =
    c.elements-in-None.ensures ∙ (ap (λ b. get_or (arrays_of b) c.args.array []) c.deref-in-None.ensures ∙ base_elements c.self.inside c.self.invariant c.args.self.now c.self.view_is c.args.array c.in-Some-Queue.unit
    (ap (λ b. home_at b c.args.array) (sym c.deref.ensures) ∙ (sym c.in-Some-Queue.ensures.1 ∙ c.in-Some-Queue.field-0-is)) c.in-None.ensures.none)
