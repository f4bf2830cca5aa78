use Rattle.std.proofs.Common.{take, sym, subst}
use Rattle.command_words.specs.Items.{given, items_of}
use Rattle.command_words.specs.Steps.{IsGiven}
use Rattle.command_words.proofs.ItemLemmas.{given_more}
use Rattle.command_words.proofs.values.values_of.Goals as goal

pub loop-i-preserved : goal.loop-i-preserved
loop-i-preserved c =
    subst (λ texts. IsGiven texts c.with_item-found.result)
    (sym (given_more c.args.choice c.loop-i.i c.args.items.now c.item_at.result c.loop-i-test.true c.item_at.ensures))
    (c.with_item-found.ensures (given c.args.choice (items_of (take c.loop-i.i c.args.items.now))) c.loop-i.invariant)
