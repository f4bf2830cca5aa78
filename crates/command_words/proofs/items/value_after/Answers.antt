use Rattle.std.proofs.Common.{◌∷◌, sym, ◌∙◌}
use Rattle.std.proofs.lemmas.List.{append_cancel_left}
use Rattle.command_words.proofs.items.value_after.Goals as goal

pub returns-in-Some-clause-none : goal.returns-in-Some-clause-none
returns-in-Some-clause-none c = λ none v e.
    c.after_equals.ensures.none none v (append_cancel_left c.args.name.now c.in-Some.rest.now (61 ∷ v) (sym c.in-Some.ensures.some ∙ e))
