use Rattle.std.proofs.Common.{[], ◌∷◌, refl, arith}
use Rattle.c_parse.specs.Symbols.{Symbol, Fixed}
use Rattle.c_parse.proofs.StmtRules.{reads_returning}
use Rattle.c_parse.proofs.Chains.{stopped, told, went, same_then, same_left, same_takes, same_fixed, same_reduces, fails_then, part_fails, fixed_fails}
use Rattle.c_parse.proofs.cursor.Cursor.return_stmt.Goals as goal

pub returns-in_err-value-clause-judged : goal.returns-in_err-value-clause-judged
returns-in_err-value-clause-judged c = λ n deep next. rw (stopped _ _ c.from_residual-in_err-value.ensures.1) (told (Symbol.statement n ∷ []) (fails_then (same_takes c.in_ok-key.ensures.read refl (omega arith)) (part_fails (Symbol.condition n ∷ []) _ (c.in_err-value.ensures.judged n deep))))

pub returns-in_err-mark-clause-judged : goal.returns-in_err-mark-clause-judged
returns-in_err-mark-clause-judged c = λ n deep next. rw (stopped _ _ c.from_residual-in_err-mark.ensures.1) (told (Symbol.statement n ∷ []) (fails_then (same_takes c.in_ok-key.ensures.read refl (omega arith)) (fails_then (same_left (Symbol.condition n ∷ []) (Symbol.fixed n Fixed.semicolon ∷ []) _ (c.in_ok-value.ensures.judged n deep)) (fixed_fails refl c.in_err-mark.ensures.refused))))

pub returns : goal.returns
returns c = record {
  derived = reads_returning _ _ _ _ _ _ _ _ c.in_ok-key.ensures.read c.in_ok-value.ensures.derived c.place-at.ensures c.in_ok-mark.ensures.read;
  judged = λ n deep next. went (Symbol.statement n ∷ []) [] (same_then (same_takes c.in_ok-key.ensures.read refl (omega arith)) (same_then (same_left (Symbol.condition n ∷ []) (Symbol.fixed n Fixed.semicolon ∷ []) _ (c.in_ok-value.ensures.judged n deep)) (same_then (same_fixed refl (omega arith) c.in_ok-mark.ensures.read) same_reduces)));
}
