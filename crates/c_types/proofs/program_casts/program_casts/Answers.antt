use Rattle.std.proofs.Common.{refl}
use Rattle.c_types.proofs.ProgramHelpers.{helpers_few, kernel_here, program_arm}
use Rattle.c_types.proofs.program_casts.program_casts.Goals as goal

pub returns : goal.returns
returns c = program_arm c.args.program.now _ c.as_slice-helpers.result.now _ _ c.as_slice-helpers.ensures c.in_ok-cast_helpers.ensures c.in_ok-cast_kernel.ensures refl refl

pub cast_helpers-requires-clause-numbered : goal.cast_helpers-requires-clause-numbered
cast_helpers-requires-clause-numbered c = helpers_few c.args.program.now c.as_slice-helpers.result.now c.as_slice-helpers.ensures c.requires.numbered

pub cast_kernel-requires : goal.cast_kernel-requires
cast_kernel-requires c = kernel_here c.args.program.now c.as_slice-helpers.result.now c.as_slice-helpers.ensures c.requires.typing c.requires.numbered
