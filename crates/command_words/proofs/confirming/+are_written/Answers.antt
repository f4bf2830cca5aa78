use Rattle.std.proofs.Common.{sym, subst}
use Rattle.command_words.specs.Items.{AreWritten, more, ended, items_of}
use Rattle.command_words.specs.Commands.{texts}
use Rattle.command_words.proofs.ConfirmLemmas.{none_left, is_nothing}
use Rattle.command_words.proofs.confirming.+are_written.Goals as goal

pub returns-then-is_empty : goal.returns-then-is_empty
returns-then-is_empty t c = λ holds.
    none_left c.args.verb c.args.items.now c.args.words.now
    (is_nothing c.args.items.now c.is_empty-then-is_empty.result c.is_empty-then-is_empty.ensures holds)
    (is_nothing c.args.words.now c.is_empty.result c.is_empty.ensures c.if-is_empty.true)

pub returns-in-Some : goal.returns-in-Some
returns-in-Some t c = λ holds. ended c.in-Some.ensures (c.are_plain.ensures holds)

pub returns-in-Some-after_item : goal.returns-in-Some-after_item
returns-in-Some-after_item t c = λ holds.
    subst (λ items. AreWritten c.args.verb (items_of items) (texts c.args.words.now)) (sym c.in-Some-split_first.ensures.cases.0)
    (more c.in-Some-after_item.ensures (c.are_written.ensures holds))
