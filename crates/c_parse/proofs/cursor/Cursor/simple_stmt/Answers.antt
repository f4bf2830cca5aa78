use Rattle.std.proofs.Common.{[], ◌∷◌, refl, arith}
use Rattle.c_parse.specs.Symbols.{Symbol}
use Rattle.c_parse.proofs.StmtRules.{reads_simple}
use Rattle.c_parse.proofs.Chains.{stopped, told, went, same_then, same_part, same_fixed, same_reduces, fails_then, part_fails, fixed_fails}
use Rattle.c_parse.proofs.Openings.{statement_opened}
use Rattle.c_parse.proofs.cursor.Cursor.simple_stmt.Goals as goal

pub returns-in_err-stmt-clause-judged : goal.returns-in_err-stmt-clause-judged
returns-in_err-stmt-clause-judged c = λ n deep none brace semicolon. rw (stopped _ _ c.from_residual.ensures.1) (told (Symbol.statement n ∷ []) (fails_then (statement_opened n _ none brace semicolon) (part_fails (Symbol.simple n ∷ []) _ (c.in_err-stmt.ensures.judged n deep))))

pub returns-in_err-mark-clause-judged : goal.returns-in_err-mark-clause-judged
returns-in_err-mark-clause-judged c = λ n deep none brace semicolon. rw (stopped _ _ c.from_residual-in_err-mark.ensures.1) (told (Symbol.statement n ∷ []) (fails_then (statement_opened n _ none brace semicolon) (fails_then (same_part (Symbol.simple n ∷ []) (c.in_ok-stmt.ensures.judged n deep)) (fixed_fails refl c.in_err-mark.ensures.refused))))

pub returns : goal.returns
returns c = record {
  derived = reads_simple _ _ _ _ _ c.in_ok-stmt.ensures.derived c.in_ok-mark.ensures.read;
  judged = λ n deep none brace semicolon. went (Symbol.statement n ∷ []) [] (same_then (statement_opened n _ none brace semicolon) (same_then (same_part (Symbol.simple n ∷ []) (c.in_ok-stmt.ensures.judged n deep)) (same_then (same_fixed refl (omega arith) c.in_ok-mark.ensures.read) same_reduces)));
}
