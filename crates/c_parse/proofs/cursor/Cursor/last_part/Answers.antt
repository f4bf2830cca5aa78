use Rattle.std.proofs.Common.{[], ◌∷◌, refl}
use Rattle.c_ast.specs.declared.mark.Mark.TheVariants as mark
use Rattle.c_parse.specs.Symbols.{Symbol, Reduction, Fixed}
use Rattle.c_parse.proofs.StmtRules.{step_absent, step_present}
use Rattle.c_parse.proofs.Chains.{stopped, told, went, same_then, same_part, same_reduces, fails_then, part_fails}
use Rattle.c_parse.proofs.Exits.{untrue}
use Rattle.c_parse.proofs.Openings.{alike_at, last_opened}
use Rattle.c_parse.proofs.cursor.Cursor.last_part.Goals as goal

pub returns-in_err-step-clause-judged : goal.returns-in_err-step-clause-judged
returns-in_err-step-clause-judged c = λ n deep. rw (stopped _ _ c.from_residual.ensures.1) (told (Symbol.last n ∷ []) (fails_then (last_opened n _ (untrue c.if-is_at.ensures.1)) (part_fails (Symbol.simple n ∷ []) _ (c.in_err-step.ensures.judged n deep))))

pub returns-then-is_at : goal.returns-then-is_at
returns-then-is_at c = record {
  derived = step_absent _;
  judged = λ n deep. went (Symbol.last n ∷ []) (Symbol.fixed n Fixed.closing ∷ []) (alike_at (Symbol.last n) (Symbol.fixed n Fixed.closing) mark.Close n Reduction.no_step _ (c.if-is_at.ensures.0 refl) refl refl);
}

pub returns : goal.returns
returns c = record {
  derived = step_present _ _ _ _ c.in_ok-step.ensures.derived c.in_ok-new.ensures;
  judged = λ n deep. went (Symbol.last n ∷ []) (Symbol.fixed n Fixed.closing ∷ []) (same_then (last_opened n _ (untrue c.if-is_at.ensures.1)) (same_then (same_part (Symbol.simple n ∷ []) (c.in_ok-step.ensures.judged n deep)) same_reduces));
}
