use Rattle.kernel_runs.proofs.RefusedLemmas.{compile}
use Rattle.kernel_runs.proofs.laws.kernels_compile.Goals as goal

pub returns : goal.returns
returns c = compile c.one_text_has_one_answer.ensures
