use Rattle.net_runs.proofs.ToldLemmas.{told_replays}
use Rattle.net_runs.proofs.laws.told_schedules_replay.Goals as goal

pub returns : goal.returns
returns c = told_replays c.inputs_texts_have_one_reading.ensures c.one_answer.ensures
