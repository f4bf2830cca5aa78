use Rattle.kernel_runs.proofs.RefusedLemmas.{run_in_time}
use Rattle.kernel_runs.proofs.laws.ending_kernels_run.Goals as goal

pub returns : goal.returns
returns c = run_in_time c.one_text_has_one_answer.ensures c.inputs_texts_have_one_reading.ensures c.good_nets_stay_good.ensures.computes c.good_nets_stay_good.ensures.in_time
