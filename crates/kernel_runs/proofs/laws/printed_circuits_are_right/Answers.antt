use Rattle.kernel_runs.proofs.PrintedLemmas.{replayed, ran}
use Rattle.kernel_runs.proofs.laws.printed_circuits_are_right.Goals as goal

pub returns-clause-replays : goal.returns-clause-replays
returns-clause-replays c = replayed c.inputs_texts_have_one_reading.ensures c.good_nets_stay_good.ensures.computes c.numbers_stay_in_range.ensures.results c.one_text_has_one_answer.ensures

pub returns-clause-runs : goal.returns-clause-runs
returns-clause-runs c = ran c.inputs_texts_have_one_reading.ensures c.good_nets_stay_good.ensures.computes c.numbers_stay_in_range.ensures.results c.one_text_has_one_answer.ensures
