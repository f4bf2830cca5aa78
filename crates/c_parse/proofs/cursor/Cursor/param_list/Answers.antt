use Rattle.std.proofs.Common.{[], ◌∷◌, refl, arith}
use Rattle.c_parse.specs.Symbols.{Symbol}
use Rattle.c_parse.specs.Parts.{param_list_symbols}
use Rattle.c_parse.proofs.KernelRules.{reads_first_param, reads_param_after}
use Rattle.c_parse.proofs.Chains.{stopped, told, went, same_then, same_part, same_takes, same_reduces, fails_then, part_fails}
use Rattle.c_parse.proofs.Exits.{untrue}
use Rattle.c_parse.proofs.Openings.{more_params_end}
use Rattle.c_parse.proofs.cursor.Cursor.param_list.Goals as goal

pub returns-in_err-first-clause-judged : goal.returns-in_err-first-clause-judged
returns-in_err-first-clause-judged c = λ n small. rw (stopped _ _ c.from_residual.ensures.1) (told (param_list_symbols n) (part_fails (Symbol.a_param n ∷ []) _ (c.in_err-first.ensures.judged n small)))

pub returns-in_err-more-clause-judged : goal.returns-in_err-more-clause-judged
returns-in_err-more-clause-judged c = λ n small. rw (stopped _ _ c.from_residual-in_err-more.ensures.1) (told (param_list_symbols n) (fails_then (c.params.invariant.judged n small) (fails_then (same_takes c.in_ok-mark.ensures.read refl (omega arith)) (part_fails (Symbol.a_param n ∷ []) _ (c.in_err-more.ensures.judged n small)))))

pub params-init : goal.params-init
params-init c = record {
  read = reads_first_param _ _ _ _ _ c.in_ok-first.ensures.derived c.new-params.ensures c.in_ok-push.ensures.ok;
  judged = λ n small. same_then (same_part (Symbol.a_param n ∷ []) (c.in_ok-first.ensures.judged n small)) same_reduces;
}

pub params-preserved : goal.params-preserved
params-preserved c = record {
  read = reads_param_after _ _ _ _ _ _ _ _ c.params.invariant.read c.in_ok-mark.ensures.read c.in_ok-more.ensures.derived c.in_ok-push-2.ensures.ok;
  judged = λ n small. same_then (c.params.invariant.judged n small) (same_then (same_takes c.in_ok-mark.ensures.read refl (omega arith)) (same_then (same_part (Symbol.a_param n ∷ []) (c.in_ok-more.ensures.judged n small)) same_reduces));
}

pub returns-clause-judged : goal.returns-clause-judged
returns-clause-judged c = λ n small. went (param_list_symbols n) [] (same_then (c.params.invariant.judged n small) (more_params_end n _ (untrue c.params-test.ensures.1)))
