use Rattle.std.proofs.Common.{◌++◌, ◌∷◌, [], sym, ◌∙◌, ap}
use Rattle.command_words.specs.Items.{item_of, plain_words}
use Rattle.command_words.proofs.ItemLemmas.{plain_more}
use Rattle.command_words.proofs.reading.plain_of.Goals as goal

pub loop-i-preserved : goal.loop-i-preserved
loop-i-preserved c =
    c.in_ok-push_plain.ensures ∙ ap (λ ws. ws ++ plain_words (item_of c.item_at.result ∷ [])) c.loop-i.invariant
    ∙ sym (plain_more c.loop-i.i c.args.items.now c.item_at.result c.loop-i-test.true c.item_at.ensures)
