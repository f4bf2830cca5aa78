use Rattle.std.proofs.Common.{[], ◌∷◌, arith}
use Rattle.c_parse.specs.Symbols.{Symbol}
use Rattle.c_parse.proofs.KernelRules.{reads_param}
use Rattle.c_parse.proofs.Chains.{stopped, told, went, same_then, same_part, same_name, same_reduces, fails_then, part_fails, name_fails}
use Rattle.c_parse.proofs.Openings.{param_opened}
use Rattle.c_parse.proofs.cursor.Cursor.param.Goals as goal

pub returns-in_err-ty-clause-judged : goal.returns-in_err-ty-clause-judged
returns-in_err-ty-clause-judged c = λ n small. rw (stopped _ _ c.from_residual.ensures.1) (told (Symbol.a_param n ∷ []) (fails_then (param_opened n _) (part_fails (Symbol.a_type n ∷ []) _ (c.in_err-ty.ensures.judged n (omega arith)))))

pub returns-in_err-name-clause-judged : goal.returns-in_err-name-clause-judged
returns-in_err-name-clause-judged c = λ n small. rw (stopped _ _ c.from_residual-in_err-name.ensures.1) (told (Symbol.a_param n ∷ []) (fails_then (param_opened n _) (fails_then (same_part (Symbol.a_type n ∷ []) (c.in_ok-ty.ensures.judged n (omega arith))) (name_fails c.in_err-name.ensures.refused))))

pub returns-in_err-dims-clause-judged : goal.returns-in_err-dims-clause-judged
returns-in_err-dims-clause-judged c = λ n small. rw (stopped _ _ c.from_residual-in_err-dims.ensures.1) (told (Symbol.a_param n ∷ []) (fails_then (param_opened n _) (fails_then (same_part (Symbol.a_type n ∷ []) (c.in_ok-ty.ensures.judged n (omega arith))) (fails_then (same_name (omega arith) c.in_ok-name.ensures.read) (fails_then same_reduces (part_fails (Symbol.dims n ∷ []) _ (c.in_err-dims.ensures.judged n small)))))))

pub returns : goal.returns
returns c = record {
  derived = reads_param _ _ _ _ _ _ _ _ c.in_ok-ty.ensures.derived c.in_ok-name.ensures.read c.in_ok-dims.ensures.derived;
  judged = λ n small. went (Symbol.a_param n ∷ []) [] (same_then (param_opened n _) (same_then (same_part (Symbol.a_type n ∷ []) (c.in_ok-ty.ensures.judged n (omega arith))) (same_then (same_name (omega arith) c.in_ok-name.ensures.read) (same_then same_reduces (same_then (same_part (Symbol.dims n ∷ []) (c.in_ok-dims.ensures.judged n small)) same_reduces)))));
}
