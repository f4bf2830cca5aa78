use Rattle.kernel_ref.proofs.OneAnswer.{complete}
use Rattle.kernel_ref.proofs.laws.ending_kernels_are_not_refused.Goals as goal

pub returns : goal.returns
returns c = complete c.inputs_have_one_answer.ensures
