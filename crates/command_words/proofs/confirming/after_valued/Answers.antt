use Rattle.std.proofs.Common.{◌∷◌, ◌∙◌, ap₂}
use Rattle.std.proofs.lemmas.Option.{IfSome_then}
use Rattle.command_words.specs.Items.{apart, joined}
use Rattle.command_words.proofs.confirming.after_valued.Goals as goal

pub returns-in-Some : goal.returns-in-Some
returns-in-Some c =
    IfSome_then c.after_word-in-Some.result c.after_word-in-Some.ensures
    (λ rest e. apart c.requires.own c.requires.valued (c.in-Some.ensures ∙ ap₂ (λ w ws. w ∷ ws) c.word.ensures e))

pub returns-in-None : goal.returns-in-None
returns-in-None c = IfSome_then c.after_joined.result c.after_joined.ensures (λ rest e. joined c.requires.own c.requires.valued e)
