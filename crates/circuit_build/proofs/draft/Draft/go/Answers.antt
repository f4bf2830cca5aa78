use Rattle.std.proofs.Common.{◌≡◌, ◌∙◌, OnOk, get_or, subst, ap, List, ℕ}
use Rattle.circuit_build.specs.declared.draft.Draft.{Draft}
use Rattle.circuit_build.proofs.Going.{gone_is}
use Rattle.circuit_build.proofs.draft.Draft.go.Goals as goal

pub returns : goal.returns
returns c =
    subst (λ (d : Draft). OnOk c.lead.result (c.lead.new.self ≡ d))
    (gone_is c.args.to c.args.values.now c.args.self.now c.pass_all.new.self c.buffer_if.new.self c.count_at-head.result c.number.result c.is_of_head.result c.in_ok-ends.ends
    (c.count_at-head.ensures ∙ ap (λ (hs : List ℕ). get_or hs c.args.to 0) c.as_slice.ensures) c.number.ensures c.in_ok-ends.ensures.draft c.in_ok-ends.ensures.ends c.is_of_head.ensures c.in_ok-buffer_if.ensures)
    c.lead.ensures
