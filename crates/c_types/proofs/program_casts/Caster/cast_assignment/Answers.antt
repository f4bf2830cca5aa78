use Rattle.std.proofs.Common.{◌∙◌}
use Rattle.c_types.proofs.ProgramCastStatements.{assign_arm}
use Rattle.c_types.proofs.program_casts.Caster.cast_assignment.Goals as goal

pub returns : goal.returns
returns c = assign_arm c.args.self.now.helpers.now c.args.known.now _ _ _ _ _ _ _ c.in_ok-target.ensures c.in_ok-value.ensures (c.into_inner-value.ensures ∙ c.in_ok-assigned.ensures)
