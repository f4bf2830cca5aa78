use Rattle.std.proofs.Common.{[], ◌∷◌, sym, arith}
use Rattle.c_parse.specs.Symbols.{Symbol}
use Rattle.c_parse.specs.Parts.{target_symbols}
use Rattle.c_parse.proofs.Rules.{reads_same}
use Rattle.c_parse.proofs.StmtRules.{reads_assign, reads_step_after}
use Rattle.c_parse.proofs.Chains.{stopped, told, went, same_then, same_part, same_from, same_takes, same_reduces, fails_then, part_fails}
use Rattle.c_parse.proofs.Openings.{target_opened}
use Rattle.c_parse.proofs.JudgedSimple.{assignment, last_step, assigning_fails}
use Rattle.c_parse.proofs.cursor.Cursor.after_target.Goals as goal

pub returns-in_err-target-clause-judged : goal.returns-in_err-target-clause-judged
returns-in_err-target-clause-judged c = λ n deep none. rw (stopped _ _ c.from_residual.ensures.1) (told (Symbol.simple n ∷ []) (fails_then (target_opened n _ none) (part_fails (target_symbols n) _ (c.in_err-target.ensures.judged n deep))))

pub returns-in_err-value-clause-judged : goal.returns-in_err-value-clause-judged
returns-in_err-value-clause-judged c = λ n deep none. rw (stopped _ _ c.from_residual-in_err-value.ensures.1) (told (Symbol.simple n ∷ []) (fails_then (target_opened n _ none) (fails_then (same_part (target_symbols n) (c.in_ok-target.ensures.judged n deep)) (fails_then (same_takes c.in-Some.ensures.some.split (assignment n _ _ c.in-Some.ensures.some.operator) (omega arith)) (part_fails (Symbol.expression n 0 ∷ []) _ (c.in_err-value.ensures.judged n deep))))))

pub returns-in_err-up-clause-judged : goal.returns-in_err-up-clause-judged
returns-in_err-up-clause-judged c = λ n deep none. rw (stopped _ _ c.from_residual-in_err-up.ensures.1) (told (Symbol.simple n ∷ []) (fails_then (target_opened n _ none) (fails_then (same_part (target_symbols n) (c.in_ok-target.ensures.judged n deep)) (assigning_fails n _ _ _ c.in_default.ensures.none c.in_default.ensures.other c.in_err-up.ensures.refused))))

pub returns-in-Some : goal.returns-in-Some
returns-in-Some c = record {
  derived = reads_assign _ _ _ _ _ _ _ _ c.in_ok-target.ensures.derived c.in-Some.ensures.some c.in_ok-value.ensures.derived c.place.ensures;
  judged = λ n deep none. went (Symbol.simple n ∷ []) [] (same_then (target_opened n _ none) (same_then (same_part (target_symbols n) (c.in_ok-target.ensures.judged n deep)) (same_then (same_takes c.in-Some.ensures.some.split (assignment n _ _ c.in-Some.ensures.some.operator) (omega arith)) (same_then (same_part (Symbol.expression n 0 ∷ []) (c.in_ok-value.ensures.judged n deep)) same_reduces))));
}

pub returns : goal.returns
returns c = record {
  derived = reads_step_after _ _ _ _ _ _ (reads_same _ _ _ _ c.in_ok-target.ensures.derived c.in_default.ensures.none) c.in_ok-up.ensures.read c.place-2.ensures;
  judged = λ n deep none. went (Symbol.simple n ∷ []) [] (same_then (target_opened n _ none) (same_then (same_part (target_symbols n) (c.in_ok-target.ensures.judged n deep)) (same_from (sym c.in_default.ensures.none) (same_then (same_takes c.in_ok-up.ensures.read.split (last_step n _ _ c.in_ok-up.ensures.read.operator) (omega arith)) same_reduces))));
}
