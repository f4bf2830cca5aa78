use Rattle.std.proofs.Common.{rules, sym, ◌∙◌, ap}
use Rattle.std.specs.Prelude.{not, ◌==◌}
use Rattle.std.proofs.lemmas.Fn.{filter_same}
use Rattle.block_prune.specs.declared.overwritten.Place.{Place}
use Rattle.block_prune.specs.Code.{noted}
use Rattle.block_prune.proofs.overwritten.note.Goals as goal

pub returns-in-Load-clause-noted : goal.returns-in-Load-clause-noted
returns-in-Load-clause-noted c =
    filter_same _ (λ (q : Place). not (q.array == c.in-Load.array)) _ (λ x b f k. search rules) _ _ c.retain.ensures.filtered
    ∙ sym (ap (λ i. noted i c.args.pending.now.items) c.in-Load.is)
