use Rattle.std.proofs.Common.{refl, ◌∙◌}
use Rattle.c_types.proofs.ProgramHelpers.{helper_arm, helper_params, helper_body, helper_value}
use Rattle.c_types.proofs.program_casts.cast_helper.Goals as goal

pub returns : goal.returns
returns c =
    helper_arm c.args.helpers.now c.args.helper.now c.declare_params.new.known c.cast_stmts.new.known _ _ _ _ _ _ c.as_slice-2.ensures c.as_slice-3.ensures c.in_ok-declare_params.ensures c.in_ok-body.ensures
    c.in_ok-value.ensures c.in_ok-name.ensures refl refl (c.in_ok-params.ensures ∙ c.as_slice.ensures) c.into_types.ensures refl refl

pub declare_params-requires-clause-numbered : goal.declare_params-requires-clause-numbered
declare_params-requires-clause-numbered c = helper_params c.args.helpers.now c.args.helper.now c.as_slice-2.result.now c.as_slice-2.ensures c.requires

pub cast_stmts-requires : goal.cast_stmts-requires
cast_stmts-requires c =
    helper_body c.args.helpers.now c.args.helper.now c.declare_params.new.known _ c.as_slice-2.result.now c.as_slice-3.result.now c.as_slice-2.ensures c.as_slice-3.ensures c.requires c.in_ok-declare_params.ensures

pub cast_to-requires : goal.cast_to-requires
cast_to-requires c =
    helper_value c.args.helpers.now c.args.helper.now c.declare_params.new.known c.cast_stmts.new.known _ c.as_slice-2.result.now c.as_slice-3.result.now _ c.as_slice-2.ensures c.as_slice-3.ensures c.requires
    c.in_ok-declare_params.ensures c.in_ok-body.ensures
