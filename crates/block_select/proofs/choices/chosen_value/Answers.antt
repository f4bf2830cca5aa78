use Rattle.block_select.proofs.Chosen.{place_fits}
use Rattle.std.proofs.Common.{arith}
use Rattle.block_select.proofs.choices.chosen_value.Goals as goal

pub overflow_cast-result : goal.overflow_cast-result
overflow_cast-result c = let l = place_fits c.args.choices.now c.args.pair c.place_of_choice.result c.args.first c.place_of_choice.ensures c.requires in omega (arith, l)

pub overflow_add-result : goal.overflow_add-result
overflow_add-result c = let l = place_fits c.args.choices.now c.args.pair c.place_of_choice.result c.args.first c.place_of_choice.ensures c.requires in omega (arith, l)
