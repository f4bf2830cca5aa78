use Rattle.std.proofs.Common.{sym, subst}
use Rattle.c_types.specs.ProgramContexts.{IsProgExpr}
use Rattle.c_types.proofs.ProgramCastLemmas.{no_option, an_option, option_is}
use Rattle.c_types.proofs.program_casts.Caster.cast_option.Goals as goal

pub returns-in-None : goal.returns-in-None
returns-in-None c = option_is c.args.self.now.helpers.now c.args.scopes.now _ _ _ c.in-None.is (no_option c.args.self.now.helpers.now c.args.scopes.now)

pub returns-in_ok-cast_boxed-in-Some : goal.returns-in_ok-cast_boxed-in-Some
returns-in_ok-cast_boxed-in-Some c = option_is c.args.self.now.helpers.now c.args.scopes.now _ _ _ c.in-Some.is (an_option c.args.self.now.helpers.now c.args.scopes.now _ _ (subst (IsProgExpr c.args.self.now.helpers.now c.args.scopes.now _) (sym c.into_inner.ensures) c.in_ok-cast_boxed-in-Some.ensures))
