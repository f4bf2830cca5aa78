use Rattle.std.proofs.Common.{[], ◌∷◌, refl, arith}
use Rattle.c_parse.specs.declared.bar.Bar.TheVariants as bar
use Rattle.c_parse.specs.Symbols.{Symbol}
use Rattle.c_parse.proofs.Chains.{stopped, told, went, same_then, same_part, same_left, same_takes, same_name, same_fixed, same_reduces, fails_then, part_fails, name_fails, fixed_fails}
use Rattle.c_parse.proofs.JudgedPrograms.{reads_helper, helper_word_fails}
use Rattle.c_parse.proofs.cursor.Cursor.helper.Goals as goal

pub returns-in_err-result-clause-judged : goal.returns-in_err-result-clause-judged
returns-in_err-result-clause-judged c = λ next. rw (stopped _ _ c.from_residual-in_err-result.ensures.1) (told (Symbol.program ∷ []) (fails_then (same_takes c.in_ok-key.ensures.read refl (omega arith)) (part_fails (Symbol.a_type 0 ∷ []) _ (c.in_err-result.ensures.judged 0 (omega arith)))))

pub returns-in_err-name-clause-judged : goal.returns-in_err-name-clause-judged
returns-in_err-name-clause-judged c = λ next. rw (stopped _ _ c.from_residual-in_err-name.ensures.1) (told (Symbol.program ∷ []) (fails_then (same_takes c.in_ok-key.ensures.read refl (omega arith)) (fails_then (same_part (Symbol.a_type 0 ∷ []) (c.in_ok-result.ensures.judged 0 (omega arith))) (name_fails c.in_err-name.ensures.refused))))

pub returns-in_err-mark-clause-judged : goal.returns-in_err-mark-clause-judged
returns-in_err-mark-clause-judged c = λ next. rw (stopped _ _ c.from_residual-in_err-mark.ensures.1) (told (Symbol.program ∷ []) (fails_then (same_takes c.in_ok-key.ensures.read refl (omega arith)) (fails_then (same_part (Symbol.a_type 0 ∷ []) (c.in_ok-result.ensures.judged 0 (omega arith))) (fails_then (same_name (omega arith) c.in_ok-name.ensures.read) (fixed_fails refl c.in_err-mark.ensures.refused)))))

pub returns-in_err-params-clause-judged : goal.returns-in_err-params-clause-judged
returns-in_err-params-clause-judged c = λ next. rw (stopped _ _ c.from_residual-in_err-params.ensures.1) (told (Symbol.program ∷ []) (fails_then (same_takes c.in_ok-key.ensures.read refl (omega arith)) (fails_then (same_part (Symbol.a_type 0 ∷ []) (c.in_ok-result.ensures.judged 0 (omega arith))) (fails_then (same_name (omega arith) c.in_ok-name.ensures.read) (fails_then (same_fixed refl (omega arith) c.in_ok-mark.ensures.read) (part_fails (Symbol.without bar.Brackets (Symbol.params 1) ∷ []) _ c.in_err-params.ensures.judged))))))

pub returns-in_err-mark-2-clause-judged : goal.returns-in_err-mark-2-clause-judged
returns-in_err-mark-2-clause-judged c = λ next. rw (stopped _ _ c.from_residual-in_err-mark-2.ensures.1) (told (Symbol.program ∷ []) (fails_then (same_takes c.in_ok-key.ensures.read refl (omega arith)) (fails_then (same_part (Symbol.a_type 0 ∷ []) (c.in_ok-result.ensures.judged 0 (omega arith))) (fails_then (same_name (omega arith) c.in_ok-name.ensures.read) (fails_then (same_fixed refl (omega arith) c.in_ok-mark.ensures.read) (fails_then (same_part (Symbol.without bar.Brackets (Symbol.params 1) ∷ []) c.in_ok-params.ensures.judged) (fixed_fails refl c.in_err-mark-2.ensures.refused)))))))

pub returns-in_err-body-clause-judged : goal.returns-in_err-body-clause-judged
returns-in_err-body-clause-judged c = λ next. rw (stopped _ _ c.from_residual-in_err-body.ensures.1) (told (Symbol.program ∷ []) (fails_then (same_takes c.in_ok-key.ensures.read refl (omega arith)) (fails_then (same_part (Symbol.a_type 0 ∷ []) (c.in_ok-result.ensures.judged 0 (omega arith))) (fails_then (same_name (omega arith) c.in_ok-name.ensures.read) (fails_then (same_fixed refl (omega arith) c.in_ok-mark.ensures.read) (fails_then (same_part (Symbol.without bar.Brackets (Symbol.params 1) ∷ []) c.in_ok-params.ensures.judged) (fails_then (same_fixed refl (omega arith) c.in_ok-mark-2.ensures.read) (fails_then same_reduces (part_fails (Symbol.helper_body 1 ∷ []) _ c.in_err-body.ensures.judged)))))))))

pub returns-in_err-key-2-clause-judged : goal.returns-in_err-key-2-clause-judged
returns-in_err-key-2-clause-judged c = λ next. rw (stopped _ _ c.from_residual-in_err-key-2.ensures.1) (told (Symbol.program ∷ []) (fails_then (same_takes c.in_ok-key.ensures.read refl (omega arith)) (fails_then (same_part (Symbol.a_type 0 ∷ []) (c.in_ok-result.ensures.judged 0 (omega arith))) (fails_then (same_name (omega arith) c.in_ok-name.ensures.read) (fails_then (same_fixed refl (omega arith) c.in_ok-mark.ensures.read) (fails_then (same_part (Symbol.without bar.Brackets (Symbol.params 1) ∷ []) c.in_ok-params.ensures.judged) (fails_then (same_fixed refl (omega arith) c.in_ok-mark-2.ensures.read) (fails_then same_reduces (fails_then (same_left (Symbol.helper_body 1 ∷ []) (Symbol.helper_body 1 ∷ []) _ c.in_ok-body.ensures.judged) (helper_word_fails _ _ c.in_ok-body.ensures.behind c.in_err-key-2.ensures.refused))))))))))

pub returns-in_err-value-clause-judged : goal.returns-in_err-value-clause-judged
returns-in_err-value-clause-judged c = λ next. rw (stopped _ _ c.from_residual-in_err-value.ensures.1) (told (Symbol.program ∷ []) (fails_then (same_takes c.in_ok-key.ensures.read refl (omega arith)) (fails_then (same_part (Symbol.a_type 0 ∷ []) (c.in_ok-result.ensures.judged 0 (omega arith))) (fails_then (same_name (omega arith) c.in_ok-name.ensures.read) (fails_then (same_fixed refl (omega arith) c.in_ok-mark.ensures.read) (fails_then (same_part (Symbol.without bar.Brackets (Symbol.params 1) ∷ []) c.in_ok-params.ensures.judged) (fails_then (same_fixed refl (omega arith) c.in_ok-mark-2.ensures.read) (fails_then same_reduces (fails_then (same_left (Symbol.helper_body 1 ∷ []) (Symbol.helper_body 1 ∷ []) _ c.in_ok-body.ensures.judged) (fails_then (same_takes c.in_ok-key-2.ensures.read refl (omega arith)) (part_fails (Symbol.expression 1 0 ∷ []) _ (c.in_err-value.ensures.judged 1 (omega arith)))))))))))))

pub returns-in_err-mark-3-clause-judged : goal.returns-in_err-mark-3-clause-judged
returns-in_err-mark-3-clause-judged c = λ next. rw (stopped _ _ c.from_residual-in_err-mark-3.ensures.1) (told (Symbol.program ∷ []) (fails_then (same_takes c.in_ok-key.ensures.read refl (omega arith)) (fails_then (same_part (Symbol.a_type 0 ∷ []) (c.in_ok-result.ensures.judged 0 (omega arith))) (fails_then (same_name (omega arith) c.in_ok-name.ensures.read) (fails_then (same_fixed refl (omega arith) c.in_ok-mark.ensures.read) (fails_then (same_part (Symbol.without bar.Brackets (Symbol.params 1) ∷ []) c.in_ok-params.ensures.judged) (fails_then (same_fixed refl (omega arith) c.in_ok-mark-2.ensures.read) (fails_then same_reduces (fails_then (same_left (Symbol.helper_body 1 ∷ []) (Symbol.helper_body 1 ∷ []) _ c.in_ok-body.ensures.judged) (fails_then (same_takes c.in_ok-key-2.ensures.read refl (omega arith)) (fails_then (same_part (Symbol.expression 1 0 ∷ []) (c.in_ok-value.ensures.judged 1 (omega arith))) (fixed_fails refl c.in_err-mark-3.ensures.refused))))))))))))

pub returns-in_err-mark-4-clause-judged : goal.returns-in_err-mark-4-clause-judged
returns-in_err-mark-4-clause-judged c = λ next. rw (stopped _ _ c.from_residual-in_err-mark-4.ensures.1) (told (Symbol.program ∷ []) (fails_then (same_takes c.in_ok-key.ensures.read refl (omega arith)) (fails_then (same_part (Symbol.a_type 0 ∷ []) (c.in_ok-result.ensures.judged 0 (omega arith))) (fails_then (same_name (omega arith) c.in_ok-name.ensures.read) (fails_then (same_fixed refl (omega arith) c.in_ok-mark.ensures.read) (fails_then (same_part (Symbol.without bar.Brackets (Symbol.params 1) ∷ []) c.in_ok-params.ensures.judged) (fails_then (same_fixed refl (omega arith) c.in_ok-mark-2.ensures.read) (fails_then same_reduces (fails_then (same_left (Symbol.helper_body 1 ∷ []) (Symbol.helper_body 1 ∷ []) _ c.in_ok-body.ensures.judged) (fails_then (same_takes c.in_ok-key-2.ensures.read refl (omega arith)) (fails_then (same_part (Symbol.expression 1 0 ∷ []) (c.in_ok-value.ensures.judged 1 (omega arith))) (fails_then (same_fixed refl (omega arith) c.in_ok-mark-3.ensures.read) (fixed_fails refl c.in_err-mark-4.ensures.refused)))))))))))))

pub returns : goal.returns
returns c = record {
  derived = reads_helper _ _ _ _ _ _ _ _ _ _ _ _ _ _ _ _ _ _ _ _ _ _ _ _ c.in_ok-key.ensures.read c.in_ok-result.ensures.derived c.in_ok-name.ensures.read c.in_ok-mark.ensures.read c.in_ok-params.ensures.derived c.in_ok-mark-2.ensures.read
      c.in_ok-body.ensures.derived c.in_ok-key-2.ensures.read c.in_ok-value.ensures.derived c.in_ok-mark-3.ensures.read c.in_ok-mark-4.ensures.read;
  judged = λ next. went (Symbol.program ∷ []) (Symbol.program ∷ []) (same_then (same_takes c.in_ok-key.ensures.read refl (omega arith)) (same_then (same_part (Symbol.a_type 0 ∷ []) (c.in_ok-result.ensures.judged 0 (omega arith))) (same_then (same_name (omega arith) c.in_ok-name.ensures.read) (same_then (same_fixed refl (omega arith) c.in_ok-mark.ensures.read) (same_then (same_part (Symbol.without bar.Brackets (Symbol.params 1) ∷ []) c.in_ok-params.ensures.judged) (same_then (same_fixed refl (omega arith) c.in_ok-mark-2.ensures.read) (same_then same_reduces (same_then (same_left (Symbol.helper_body 1 ∷ []) (Symbol.helper_body 1 ∷ []) _ c.in_ok-body.ensures.judged) (same_then (same_takes c.in_ok-key-2.ensures.read refl (omega arith)) (same_then (same_part (Symbol.expression 1 0 ∷ []) (c.in_ok-value.ensures.judged 1 (omega arith))) (same_then (same_fixed refl (omega arith) c.in_ok-mark-3.ensures.read) (same_then (same_fixed refl (omega arith) c.in_ok-mark-4.ensures.read) same_reduces))))))))))));
}
