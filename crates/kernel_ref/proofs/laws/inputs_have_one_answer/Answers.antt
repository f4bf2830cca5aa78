use Rattle.kernel_ref.proofs.OneAnswer.{one_answer}
use Rattle.kernel_ref.proofs.laws.inputs_have_one_answer.Goals as goal

pub returns : goal.returns
returns c = one_answer c.ends_are_one.ensures.kernels c.larger_bounds_keep_ends.ensures.kernels c.ends_need_only_their_turns.ensures
