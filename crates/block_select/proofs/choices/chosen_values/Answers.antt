use Rattle.std.proofs.Common.{refl}
use Rattle.block_select.proofs.Chosen.{values_more}
use Rattle.block_select.proofs.choices.chosen_values.Goals as goal

pub loop-at-preserved : goal.loop-at-preserved
loop-at-preserved c =
    values_more c.args.widths.now c.args.yes.now c.args.no.now c.loop-at.at c.loop-at-test.true c.requires.yes c.requires.no c.args.first _ c.args.choices.now c.loop-at.values c.push.new.self _ _ refl c.chosen_value.ensures
    c.in_ok-push.ensures.ok c.loop-at.invariant
