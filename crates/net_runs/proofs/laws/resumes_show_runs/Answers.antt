use Rattle.net_runs.proofs.ShowLemmas.{resumes_show_runs, saved_runs_resume}
use Rattle.net_runs.proofs.laws.resumes_show_runs.Goals as goal

pub returns-clause-runs : goal.returns-clause-runs
returns-clause-runs c =
    resumes_show_runs c.inputs_texts_have_one_reading.ensures c.completion.ensures c.resumed_as_run.ensures c.texts_spell_one_state.ensures.one c.texts_spell_one_state.ensures.answer

pub returns-clause-saved : goal.returns-clause-saved
returns-clause-saved c =
    saved_runs_resume c.inputs_texts_have_one_reading.ensures c.completion.ensures c.resumed_as_run.ensures c.texts_spell_one_state.ensures.one c.texts_spell_one_state.ensures.answer
