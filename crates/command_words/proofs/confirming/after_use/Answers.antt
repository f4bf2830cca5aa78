use Rattle.std.proofs.Common.{◌≡◌, ◌∷◌, [], ◌∙◌, sym, ap, subst}
use Rattle.std.proofs.lemmas.Option.{IfSome_then}
use Rattle.command_words.specs.Items.{Begins, option, alone}
use Rattle.command_words.specs.Commands.{texts}
use Rattle.command_words.proofs.ConfirmLemmas.{is_nothing}
use Rattle.command_words.proofs.confirming.after_use.Goals as goal

pub returns-in-Flag : goal.returns-in-Flag
returns-in-Flag c =
    let none : c.args.value.now ≡ [] = is_nothing c.args.value.now c.is_empty.result c.is_empty.ensures c.if-is_empty.true in
    IfSome_then c.after_word.result c.after_word.ensures
    (λ rest e. subst (λ v. Begins c.args.verb (texts c.args.words.now) (texts rest.now) (option c.args.choice v)) (sym none)
    (alone c.requires (sym c.kind.ensures ∙ c.in-Flag.is) (e ∙ ap (λ w. w ∷ texts rest.now) c.word.ensures)))
