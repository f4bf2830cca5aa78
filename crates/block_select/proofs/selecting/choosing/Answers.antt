use Rattle.block_select.proofs.Lights.{choosing_few}
use Rattle.block_select.proofs.selecting.choosing.Goals as goal

pub chosen_values-requires-clause-few : goal.chosen_values-requires-clause-few
chosen_values-requires-clause-few c =
    choosing_few c.args.block c.len.result c.len-2.result c.args.widths.now c.args.yes.now c.args.no.now c.in_ok-choices.choices.items c.as_slice.result.now c.len.ensures c.len-2.ensures c.as_slice.ensures.value
    c.in_ok-choices.ensures c.requires.few
