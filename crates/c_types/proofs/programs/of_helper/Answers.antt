use Rattle.std.proofs.Common.{refl}
use Rattle.c_types.proofs.ProgramArms.{helper_arm, helper_scopes}
use Rattle.c_types.proofs.programs.of_helper.Goals as goal

pub returns-clause-fault : goal.returns-clause-fault
returns-clause-fault c =
    helper_arm c.args.helper.now c.as_slice-params.result.now c.as_slice.result.now c.args.scopes.now c.enter.new.self c.of_block.new.scopes c.leave.new.self _ _ _ _ _ _ c.as_slice-params.ensures c.as_slice.ensures
    c.in_ok-enter.ensures.entered c.enter.ensures.some c.in_ok-in_block.ensures.fault c.in_ok-in_block.ensures.scopes c.of_expr-in_value.ensures c.leave.ensures c.in_ok-new.ensures.is
    c.unless-again.ensures c.earlier-rest.ensures c.earlier.ensures

pub returns-clause-scopes : goal.returns-clause-scopes
returns-clause-scopes c =
    helper_scopes c.args.helper.now c.as_slice-params.result.now c.as_slice.result.now c.args.scopes.now c.enter.new.self c.of_block.new.scopes c.leave.new.self _ _ c.as_slice-params.ensures refl
    c.in_ok-enter.ensures.entered c.enter.ensures.some c.in_ok-in_block.ensures.scopes c.leave.ensures c.in_ok-new.ensures.scopes
