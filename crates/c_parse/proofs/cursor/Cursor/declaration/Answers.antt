use Rattle.std.proofs.Common.{[], ◌∷◌, refl, arith}
use Rattle.c_parse.specs.Symbols.{Symbol, declarators}
use Rattle.c_parse.proofs.StmtRules.{adds_first, adds_declared, adds_declaration}
use Rattle.c_parse.proofs.Chains.{stopped, told, went, same_then, same_part, same_takes, same_fixed, same_reduces, fails_then, part_fails, fixed_fails}
use Rattle.c_parse.proofs.Exits.{untrue}
use Rattle.c_parse.proofs.Openings.{more_declared_end}
use Rattle.c_parse.proofs.cursor.Cursor.declaration.Goals as goal

pub returns-in_err-ty-clause-judged : goal.returns-in_err-ty-clause-judged
returns-in_err-ty-clause-judged c = λ n deep. rw (stopped _ _ c.from_residual.ensures.1) (told (Symbol.a_type n ∷ declarators n) (part_fails (Symbol.a_type n ∷ []) _ (c.in_err-ty.ensures.judged n (omega arith))))

pub returns-in_err-first-clause-judged : goal.returns-in_err-first-clause-judged
returns-in_err-first-clause-judged c = λ n deep. rw (stopped _ _ c.from_residual-in_err-first.ensures.1) (told (Symbol.a_type n ∷ declarators n) (fails_then (same_part (Symbol.a_type n ∷ []) (c.in_ok-ty.ensures.judged n (omega arith))) (part_fails (Symbol.declared n ∷ []) _ (c.in_err-first.ensures.judged n deep))))

pub returns-in_err-more-clause-judged : goal.returns-in_err-more-clause-judged
returns-in_err-more-clause-judged c = λ n deep. rw (stopped _ _ c.from_residual-in_err-more.ensures.1) (told (Symbol.a_type n ∷ declarators n) (fails_then (c.declarators.invariant.judged n deep) (fails_then (same_takes c.in_ok-mark.ensures.read refl (omega arith)) (part_fails (Symbol.declared n ∷ []) _ (c.in_err-more.ensures.judged n deep)))))

pub returns-in_err-mark-2-clause-judged : goal.returns-in_err-mark-2-clause-judged
returns-in_err-mark-2-clause-judged c = λ n deep. rw (stopped _ _ c.from_residual-in_err-mark-2.ensures.1) (told (Symbol.a_type n ∷ declarators n) (fails_then (c.declarators.invariant.judged n deep) (fails_then (more_declared_end n _ (untrue c.declarators-test.ensures.1)) (fixed_fails refl c.in_err-mark-2.ensures.refused))))

pub declarators-init : goal.declarators-init
declarators-init c = record {
  read = adds_first _ _ _ _ _ _ _ c.in_ok-ty.ensures.derived c.in_ok-first.ensures.derived c.in_ok-push.ensures.ok;
  judged = λ n deep. same_then (same_part (Symbol.a_type n ∷ []) (c.in_ok-ty.ensures.judged n (omega arith))) (same_then (same_part (Symbol.declared n ∷ []) (c.in_ok-first.ensures.judged n deep)) same_reduces);
}

pub declarators-preserved : goal.declarators-preserved
declarators-preserved c = record {
  read = adds_declared _ _ _ _ _ _ _ _ _ _ c.declarators.invariant.read c.in_ok-mark.ensures.read c.in_ok-more.ensures.derived c.in_ok-push-2.ensures.ok;
  judged = λ n deep. same_then (c.declarators.invariant.judged n deep) (same_then (same_takes c.in_ok-mark.ensures.read refl (omega arith)) (same_then (same_part (Symbol.declared n ∷ []) (c.in_ok-more.ensures.judged n deep)) same_reduces));
}

pub returns : goal.returns
returns c = record {
  derived = adds_declaration _ _ _ _ _ _ _ c.declarators.invariant.read c.in_ok-mark-2.ensures.read;
  judged = λ n deep. went (Symbol.a_type n ∷ declarators n) [] (same_then (c.declarators.invariant.judged n deep) (same_then (more_declared_end n _ (untrue c.declarators-test.ensures.1)) (same_then (same_fixed refl (omega arith) c.in_ok-mark-2.ensures.read) same_reduces)));
}
