use Rattle.std.proofs.Common.{[], ◌∷◌, refl}
use Rattle.c_parse.specs.Symbols.{Symbol}
use Rattle.c_parse.proofs.StmtRules.{reads_continuing}
use Rattle.c_parse.proofs.Chains.{stopped, told, went, same_then, same_takes, same_fixed, same_reduces, fails_then, fixed_fails}
use Rattle.c_parse.proofs.cursor.Cursor.continue_stmt.Goals as goal

pub returns-in_err-mark-clause-judged : goal.returns-in_err-mark-clause-judged
returns-in_err-mark-clause-judged c = λ n small next. rw (stopped _ _ c.from_residual-in_err-mark.ensures.1) (told (Symbol.statement n ∷ []) (fails_then (same_takes c.in_ok-at.ensures.read refl small) (fixed_fails refl c.in_err-mark.ensures.refused)))

pub returns : goal.returns
returns c = record {
  derived = reads_continuing _ _ _ _ _ c.in_ok-at.ensures.read c.in_ok-mark.ensures.read;
  judged = λ n small next. went (Symbol.statement n ∷ []) [] (same_then (same_takes c.in_ok-at.ensures.read refl small) (same_then (same_fixed refl small c.in_ok-mark.ensures.read) same_reduces));
}
