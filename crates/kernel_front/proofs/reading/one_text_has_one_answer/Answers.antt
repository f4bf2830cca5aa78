use Rattle.kernel_front.proofs.OneAnswer.{one_answer}
use Rattle.kernel_front.proofs.reading.one_text_has_one_answer.Goals as goal

pub returns : goal.returns
returns c = one_answer c.texts_have_one_reading.ensures c.programs_have_one_answer.ensures c.programs_are_typed_in_one_way.ensures.at_most_one
