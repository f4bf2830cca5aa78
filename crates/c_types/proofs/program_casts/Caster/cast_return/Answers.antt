use Rattle.c_types.proofs.ProgramCastStatements.{return_arm}
use Rattle.c_types.proofs.program_casts.Caster.cast_return.Goals as goal

pub returns : goal.returns
returns c = return_arm c.args.self.now.helpers.now c.args.self.now.returned c.args.known.now c.args.stmt.now _ _ _ c.requires.is c.in_ok-value.ensures c.act.ensures
