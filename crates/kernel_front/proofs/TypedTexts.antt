-- Texts that spell and type are kernels, and kernels end where their programs do.
use Rattle.std.proofs.Common.{refl}
use Rattle.c_calls.specs.Laws.{CallsAreInlined, InlinedIsLawful}
use Rattle.c_calls.specs.Texts.{TypedIsLawful}
use Rattle.kernel_front.specs.Laws.{TextsThatTypeAreKernels, KernelsEndAsPrograms}
use Rattle.kernel_front.proofs.Answering.{OfTexts, lawful_program}

pub are_kernels : TypedIsLawful → OfTexts → InlinedIsLawful → TextsThatTypeAreKernels
are_kernels law of_texts lawful bytes program k spelled made small =
    record { program = program; spelled = spelled; inlined = made; lawful = lawful program k (lawful_program law of_texts bytes program spelled) made; typed_nodes = refl; small = small }

pub end_as_programs : TypedIsLawful → OfTexts → CallsAreInlined → KernelsEndAsPrograms
end_as_programs law of_texts inlined bytes kernel is = inlined is.program kernel.typed (lawful_program law of_texts bytes is.program is.spelled) is.inlined
