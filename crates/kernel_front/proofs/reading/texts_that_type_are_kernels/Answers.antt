use Rattle.kernel_front.proofs.TypedTexts.{are_kernels}
use Rattle.kernel_front.proofs.reading.texts_that_type_are_kernels.Goals as goal

pub returns : goal.returns
returns c = are_kernels c.typed_programs_are_lawful.ensures c.programs_of_tokens_are_of_texts.ensures c.inlined_is_lawful.ensures
