use Rattle.kernel_runs.proofs.OneGo.{compiles_one, goes_one, refusals_one, texts_one, one_printed, limit_decides}
use Rattle.kernel_runs.proofs.laws.answers_are_one.Goals as goal

pub returns-clause-compiled : goal.returns-clause-compiled
returns-clause-compiled c = compiles_one c.one_text_has_one_answer.ensures c.circuits_are_one.ensures c.one_net_per_text.ensures.text

pub returns-clause-gone : goal.returns-clause-gone
returns-clause-gone c = goes_one c.one_text_has_one_answer.ensures c.circuits_are_one.ensures c.one_net_per_text.ensures.text c.inputs_texts_have_one_reading.ensures

pub returns-clause-refused : goal.returns-clause-refused
returns-clause-refused c = refusals_one c.one_text_has_one_answer.ensures c.circuits_are_one.ensures c.one_net_per_text.ensures.text c.inputs_texts_have_one_reading.ensures

pub returns-clause-shown : goal.returns-clause-shown
returns-clause-shown c = texts_one c.one_text_has_one_answer.ensures c.circuits_are_one.ensures c.one_net_per_text.ensures.text c.inputs_texts_have_one_reading.ensures

pub returns-clause-printed : goal.returns-clause-printed
returns-clause-printed c = one_printed c.one_text_has_one_answer.ensures c.circuits_are_one.ensures c.one_net_per_text.ensures.text

pub returns-clause-limit : goal.returns-clause-limit
returns-clause-limit c = limit_decides c.one_text_has_one_answer.ensures c.circuits_are_one.ensures c.one_net_per_text.ensures.text c.inputs_texts_have_one_reading.ensures
