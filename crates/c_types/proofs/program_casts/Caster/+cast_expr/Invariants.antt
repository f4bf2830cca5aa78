use Rattle.std.proofs.Common.{take}
use Rattle.c_types.specs.ProgramContexts.{AreProgExprs, AreArguments}
use Rattle.c_types.proofs.program_casts.Caster.+cast_expr.Given as goal

abbrev pub invariant-cast_exprs-loop-expr : goal.invariant-cast_exprs-loop-expr
invariant-cast_exprs-loop-expr l = AreProgExprs l.self.helpers.now l.scopes (take l.expr-index l.exprs) l.items

abbrev pub invariant-cast_args-loop-place : goal.invariant-cast_args-loop-place
invariant-cast_args-loop-place l = AreArguments l.self.helpers.now l.scopes l.params (take l.place l.args) l.items
