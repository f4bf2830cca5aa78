use Rattle.std.proofs.Common.{sym, ap, ◌∙◌}
use Rattle.lsq_core.specs.Acts.{last_such, waiting, source_ok}
use Rattle.lsq_core.proofs.BehindLemmas.{source_clear}
use Rattle.lsq_core.proofs.indexed.Indexed.has_source.Goals as goal

pub returns-then-not-forwards : goal.returns-then-not-forwards
returns-then-not-forwards c =
    c.is_clear.ensures ∙ sym (source_clear c.args.load.now c.args.self.now.queue.items)
    ∙ ap (λ b. source_ok b (last_such (waiting c.args.load.now) c.args.self.now.queue.items)) (sym c.if-not-forwards.true ∙ c.forwards.ensures ∙ ap (λ v. v.queue.forward) c.self.view_is)
