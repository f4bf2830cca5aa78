use Rattle.std.proofs.Common.{[], ◌∷◌, refl, arith}
use Rattle.c_parse.specs.Symbols.{Symbol}
use Rattle.c_parse.proofs.StmtRules.{reads_declared_alone, reads_declared_value}
use Rattle.c_parse.proofs.Chains.{stopped, told, went, same_then, same_part, same_takes, same_reduces, fails_then, part_fails, refused_fails, name_stuck}
use Rattle.c_parse.proofs.Exits.{untrue}
use Rattle.c_parse.proofs.Openings.{value_end}
use Rattle.c_parse.proofs.cursor.Cursor.declared.Goals as goal

pub returns-in_err-name-clause-judged : goal.returns-in_err-name-clause-judged
returns-in_err-name-clause-judged c = λ n deep. rw (stopped _ _ c.from_residual.ensures.1) (told (Symbol.declared n ∷ []) (refused_fails refl (name_stuck n _) c.in_err-name.ensures.refused))

pub returns-in_err-value-clause-judged : goal.returns-in_err-value-clause-judged
returns-in_err-value-clause-judged c = λ n deep. rw (stopped _ _ c.from_residual-in_err-value.ensures.1) (told (Symbol.declared n ∷ []) (fails_then (same_takes c.in_ok-name.ensures.read refl (omega arith)) (fails_then same_reduces (fails_then (same_takes c.in_ok-mark.ensures.read refl (omega arith)) (part_fails (Symbol.expression n 0 ∷ []) _ (c.in_err-value.ensures.judged n deep))))))

pub returns-then-not-is_at : goal.returns-then-not-is_at
returns-then-not-is_at c = record {
  derived = reads_declared_alone _ _ _ _ _ c.in_ok-name.ensures.read;
  judged = λ n deep. went (Symbol.declared n ∷ []) [] (same_then (same_takes c.in_ok-name.ensures.read refl (omega arith)) (same_then same_reduces (value_end n _ (untrue c.if-not-is_at.ensures.1))));
}

pub returns : goal.returns
returns c = record {
  derived = reads_declared_value _ _ _ _ _ _ _ _ _ c.in_ok-name.ensures.read c.in_ok-mark.ensures.read c.in_ok-value.ensures.derived;
  judged = λ n deep. went (Symbol.declared n ∷ []) [] (same_then (same_takes c.in_ok-name.ensures.read refl (omega arith)) (same_then same_reduces (same_then (same_takes c.in_ok-mark.ensures.read refl (omega arith)) (same_then (same_part (Symbol.expression n 0 ∷ []) (c.in_ok-value.ensures.judged n deep)) same_reduces))));
}
