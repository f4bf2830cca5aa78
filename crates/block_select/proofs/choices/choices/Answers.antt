use Rattle.std.proofs.Common.{refl}
use Rattle.block_select.proofs.Chosen.{choices_more}
use Rattle.block_select.proofs.choices.choices.Goals as goal

pub loop-at-preserved : goal.loop-at-preserved
loop-at-preserved c =
    choices_more c.args.widths.now c.args.yes.now c.args.no.now c.loop-at.at c.loop-at-test.true c.requires.yes c.requires.no c.loop-at.made.items _ _ _ refl c.in_ok-add_pair.ensures c.loop-at.invariant
