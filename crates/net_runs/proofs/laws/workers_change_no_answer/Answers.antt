use Rattle.net_runs.proofs.OneRuns.{runs_are_one, refused_runs_are_one, run_texts_are_one}
use Rattle.net_runs.proofs.laws.workers_change_no_answer.Goals as goal

pub returns-clause-runs : goal.returns-clause-runs
returns-clause-runs c = runs_are_one c.inputs_texts_have_one_reading.ensures

pub returns-clause-refused : goal.returns-clause-refused
returns-clause-refused c = refused_runs_are_one c.inputs_texts_have_one_reading.ensures

pub returns-clause-texts : goal.returns-clause-texts
returns-clause-texts c = run_texts_are_one c.inputs_texts_have_one_reading.ensures
