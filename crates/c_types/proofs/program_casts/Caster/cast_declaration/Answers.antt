use Rattle.std.proofs.Common.{sym, subst}
use Rattle.std.specs.Prelude.{IfSome}
use Rattle.c_types.specs.ProgramParts.{TypingExprWith}
use Rattle.c_types.proofs.ProgramCastStatements.{declare_arm}
use Rattle.c_types.proofs.program_casts.Caster.cast_declaration.Goals as goal

pub returns : goal.returns
returns c = declare_arm c.args.self.now.helpers.now c.args.known.now _ _ _ _ _ _ c.in_ok-var.ensures.number c.requires.new c.in_ok-var.ensures.scopes c.in_ok-var.ensures.types c.in_ok-init.ensures

pub cast_value-requires-clause-typing : goal.cast_value-requires-clause-typing
cast_value-requires-clause-typing c = subst (λ v. IfSome c.args.init.now (TypingExprWith c.args.self.now.helpers.now v)) (sym c.in_ok-var.ensures.scopes) c.requires.typing
