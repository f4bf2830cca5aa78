use Rattle.c_types.proofs.ProgramCastStatements.{step_arm}
use Rattle.c_types.proofs.program_casts.Caster.cast_step.Goals as goal

pub returns : goal.returns
returns c = step_arm c.args.self.now.helpers.now c.args.known.now _ _ _ _ c.in_ok-target.ensures
