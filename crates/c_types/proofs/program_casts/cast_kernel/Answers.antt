use Rattle.std.proofs.Common.{refl, ◌∙◌}
use Rattle.c_types.proofs.ProgramHelpers.{kernel_arm, kernel_params, kernel_body}
use Rattle.c_types.proofs.program_casts.cast_kernel.Goals as goal

pub returns : goal.returns
returns c =
    kernel_arm c.args.helpers.now c.args.kernel.now c.declare_params.new.known c.cast_stmts.new.known _ _ _ _ _ c.as_slice-2.ensures c.as_slice-3.ensures c.in_ok-arrays.ensures c.in_ok-body.ensures
    c.in_ok-name.ensures refl refl (c.in_ok-params.ensures ∙ c.as_slice.ensures) c.into_types.ensures refl refl

pub declare_params-requires-clause-numbered : goal.declare_params-requires-clause-numbered
declare_params-requires-clause-numbered c = kernel_params c.args.helpers.now c.args.kernel.now c.as_slice-2.result.now c.as_slice-2.ensures c.requires

pub cast_stmts-requires : goal.cast_stmts-requires
cast_stmts-requires c = kernel_body c.args.helpers.now c.args.kernel.now c.declare_params.new.known _ c.as_slice-2.result.now c.as_slice-3.result.now c.as_slice-2.ensures c.as_slice-3.ensures c.requires c.in_ok-arrays.ensures
