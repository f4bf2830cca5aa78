use Rattle.elastic_top.proofs.SameResults.{one_end}
use Rattle.elastic_top.proofs.laws.ref_and_go_show_one_end.Goals as goal

pub returns : goal.returns
returns c =
    one_end c.patterns_are_those_of_their_numbers.ensures c.patterns_stand_for_numbers_in_range.ensures c.inputs_texts_have_one_reading.ensures c.good_nets_stay_good.ensures.computes c.numbers_stay_in_range.ensures.results c.one_text_has_one_answer.ensures
