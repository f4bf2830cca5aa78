use Rattle.kernel_runs.proofs.InterpretedLemmas.{as_interpreted}
use Rattle.kernel_runs.proofs.laws.circuits_show_what_is_interpreted.Goals as goal

pub returns : goal.returns
returns c = as_interpreted c.patterns_are_those_of_their_numbers.ensures c.patterns_stand_for_numbers_in_range.ensures c.one_text_has_one_answer.ensures
