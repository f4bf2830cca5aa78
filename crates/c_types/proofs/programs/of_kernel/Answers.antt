use Rattle.c_types.proofs.ProgramArms.{kernel_arm}
use Rattle.c_types.proofs.programs.of_kernel.Goals as goal

pub returns : goal.returns
returns c =
    kernel_arm c.args.kernel.now c.as_slice-params.result.now c.as_slice-body.result.now c.args.scopes.now c.enter.new.self _ _ _ _ c.as_slice-params.ensures c.as_slice-body.ensures c.in_ok-enter.ensures.entered
    c.is_new.ensures c.unless-again.ensures c.in_ok-in_block.ensures.fault c.earlier.ensures
