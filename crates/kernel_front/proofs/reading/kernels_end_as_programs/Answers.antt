use Rattle.kernel_front.proofs.TypedTexts.{end_as_programs}
use Rattle.kernel_front.proofs.reading.kernels_end_as_programs.Goals as goal

pub returns : goal.returns
returns c = end_as_programs c.typed_programs_are_lawful.ensures c.programs_of_tokens_are_of_texts.ensures c.calls_are_inlined.ensures
