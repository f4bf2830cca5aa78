use Rattle.std.proofs.Common.{[], ◌∷◌, refl}
use Rattle.c_ast.specs.declared.mark.Mark.TheVariants as mark
use Rattle.c_parse.specs.Symbols.{Symbol, Reduction, Fixed}
use Rattle.c_parse.proofs.StmtRules.{option_absent, option_present}
use Rattle.c_parse.proofs.Chains.{stopped, told, went, same_then, same_part, same_reduces, fails_then, part_fails}
use Rattle.c_parse.proofs.Exits.{untrue}
use Rattle.c_parse.proofs.Openings.{alike_at, condition_opened}
use Rattle.c_parse.proofs.cursor.Cursor.optional.Goals as goal

pub returns-in_err-value-clause-judged : goal.returns-in_err-value-clause-judged
returns-in_err-value-clause-judged c = λ n deep. rw (stopped _ _ c.from_residual.ensures.1) (told (Symbol.condition n ∷ []) (fails_then (condition_opened n _ (untrue c.if-is_at.ensures.1)) (part_fails (Symbol.expression n 0 ∷ []) _ (c.in_err-value.ensures.judged n deep))))

pub returns-then-is_at : goal.returns-then-is_at
returns-then-is_at c = record {
  derived = option_absent _;
  judged = λ n deep. went (Symbol.condition n ∷ []) (Symbol.fixed n Fixed.semicolon ∷ []) (alike_at (Symbol.condition n) (Symbol.fixed n Fixed.semicolon) mark.Semicolon n Reduction.no_condition _ (c.if-is_at.ensures.0 refl) refl refl);
}

pub returns : goal.returns
returns c = record {
  derived = option_present _ _ _ c.in_ok-value.ensures.derived;
  judged = λ n deep. went (Symbol.condition n ∷ []) (Symbol.fixed n Fixed.semicolon ∷ []) (same_then (condition_opened n _ (untrue c.if-is_at.ensures.1)) (same_then (same_part (Symbol.expression n 0 ∷ []) (c.in_ok-value.ensures.judged n deep)) same_reduces));
}
