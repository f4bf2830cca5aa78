use Rattle.std.proofs.Common.{[], ◌∷◌, arith}
use Rattle.c_parse.specs.Symbols.{Symbol}
use Rattle.c_parse.specs.Parts.{target_symbols}
use Rattle.c_parse.proofs.StmtRules.{reads_step_before}
use Rattle.c_parse.proofs.Chains.{stopped, told, went, same_then, same_part, same_reduces, fails_then, part_fails}
use Rattle.c_parse.proofs.JudgedSimple.{step_not_refused, step_opened}
use Rattle.c_parse.proofs.cursor.Cursor.step_before.Goals as goal

pub returns-in_err-up-clause-judged : goal.returns-in_err-up-clause-judged
returns-in_err-up-clause-judged c = λ n deep next. rw (stopped _ _ c.from_residual.ensures.1) (told (Symbol.simple n ∷ []) (step_not_refused (Symbol.simple n ∷ []) _ _ next c.in_err-up.ensures.refused))

pub returns-in_err-target-clause-judged : goal.returns-in_err-target-clause-judged
returns-in_err-target-clause-judged c = λ n deep next. rw (stopped _ _ c.from_residual-in_err-target.ensures.1) (told (Symbol.simple n ∷ []) (fails_then (step_opened n _ _ _ (omega arith) c.in_ok-up.ensures.read) (part_fails (target_symbols n) _ (c.in_err-target.ensures.judged n deep))))

pub returns : goal.returns
returns c = record {
  derived = reads_step_before _ _ _ _ _ _ c.in_ok-up.ensures.read c.in_ok-target.ensures.derived c.place.ensures;
  judged = λ n deep next. went (Symbol.simple n ∷ []) [] (same_then (step_opened n _ _ _ (omega arith) c.in_ok-up.ensures.read) (same_then (same_part (target_symbols n) (c.in_ok-target.ensures.judged n deep)) same_reduces));
}
