use Rattle.std.proofs.Common.{sym, subst}
use Rattle.std.proofs.lemmas.Option.{IfSome_then}
use Rattle.command_words.specs.Items.{Begins, word, item_of}
use Rattle.command_words.specs.Commands.{texts}
use Rattle.command_words.proofs.confirming.after_item.Goals as goal

pub returns-in-Plain : goal.returns-in-Plain
returns-in-Plain c =
    IfSome_then c.after_word.result c.after_word.ensures
    (λ rest e. subst (λ i. Begins c.args.verb (texts c.args.words.now) (texts rest.now) (item_of i)) (sym c.in-Plain.is) (word (c.is_plain.ensures.plain c.if-is_plain.true) e))
