use Rattle.std.proofs.Common.{[], ◌∷◌, refl, sym}
use Rattle.c_parse.specs.Symbols.{Symbol}
use Rattle.c_parse.proofs.Rules.{reads_from}
use Rattle.c_parse.proofs.KernelRules.{reads_void, reads_result}
use Rattle.c_parse.proofs.Chains.{stopped, told, went, same_then, same_part, same_from, same_takes, same_reduces, fails_then, fails_from, part_fails}
use Rattle.c_parse.proofs.Openings.{result_opened}
use Rattle.c_parse.proofs.cursor.Cursor.result.Goals as goal

pub returns-in_err-ty-clause-judged : goal.returns-in_err-ty-clause-judged
returns-in_err-ty-clause-judged c = λ n small. rw (stopped _ _ c.from_residual.ensures.1) (told (Symbol.result n ∷ []) (fails_then (result_opened n _ c.in_default.ensures.other) (fails_from (sym c.in_default.ensures.none) (part_fails (Symbol.a_type n ∷ []) _ (c.in_err-ty.ensures.judged n small)))))

pub returns-in-Some : goal.returns-in-Some
returns-in-Some c = record {
  derived = reads_void _ _ _ c.in-Some.ensures.some;
  judged = λ n small. went (Symbol.result n ∷ []) [] (same_then (same_takes c.in-Some.ensures.some refl small) same_reduces);
}

pub returns : goal.returns
returns c = record {
  derived = reads_result _ _ _ (reads_from _ _ _ _ c.in_ok-ty.ensures.derived (sym c.in_default.ensures.none));
  judged = λ n small. went (Symbol.result n ∷ []) [] (same_then (result_opened n _ c.in_default.ensures.other) (same_from (sym c.in_default.ensures.none) (same_then (same_part (Symbol.a_type n ∷ []) (c.in_ok-ty.ensures.judged n small)) same_reduces)));
}
