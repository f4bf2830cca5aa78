use Rattle.std.proofs.Common.{refl}
use Rattle.c_types.specs.ProgramContexts.{no_value}
use Rattle.c_types.proofs.ProgramCastLemmas.{value_is, value_arm}
use Rattle.c_types.proofs.program_casts.Caster.cast_value.Goals as goal

pub returns-in-None-default : goal.returns-in-None-default
returns-in-None-default c = value_is c.args.self.now.helpers.now _ _ c.args.scopes.now _ _ _ refl c.in-None-default.is-0 (no_value _ c.args.scopes.now)

pub returns-in_ok-value-in-Some-Some : goal.returns-in_ok-value-in-Some-Some
returns-in_ok-value-in-Some-Some c =
    value_is c.args.self.now.helpers.now _ _ c.args.scopes.now _ _ _ c.in-Some-Some.is-1 c.in-Some-Some.is-0 (value_arm c.args.self.now.helpers.now _ c.args.scopes.now _ _ _ c.get.ensures c.in_ok-value-in-Some-Some.ensures)
