use Rattle.std.proofs.Common.{[], ◌∷◌, refl, sym, ◌∙◌, arith}
use Rattle.c_parse.specs.Symbols.{Symbol}
use Rattle.c_parse.proofs.StmtRules.{first_nothing, first_simple, first_declares}
use Rattle.c_parse.proofs.Chains.{stopped, told, went, same_then, same_part, same_takes, same_fixed, same_reduces, fails_then, part_fails, fixed_fails}
use Rattle.c_parse.proofs.Exits.{untrue}
use Rattle.c_parse.proofs.Openings as openings
use Rattle.c_parse.proofs.Openings.{first_opened}
use Rattle.c_parse.proofs.cursor.Cursor.first.Goals as goal

pub returns-in_err-declaration-clause-judged : goal.returns-in_err-declaration-clause-judged
returns-in_err-declaration-clause-judged c = λ n deep. rw (stopped _ _ c.from_residual.ensures.1) (told (Symbol.first n ∷ []) (fails_then (openings.first_declares n _ (sym c.is_at_type.ensures ∙ c.if-is_at_type.true)) (record { holds = c.in_err-declaration.ensures.judged n deep })))

pub returns-in_err-stmt-clause-judged : goal.returns-in_err-stmt-clause-judged
returns-in_err-stmt-clause-judged c = λ n deep. rw (stopped _ _ c.from_residual-in_err-stmt.ensures.1) (told (Symbol.first n ∷ []) (fails_then (first_opened n _ (sym c.is_at_type.ensures ∙ c.if-is_at_type.false) (untrue c.if-is_at.ensures.1)) (part_fails (Symbol.simple n ∷ []) _ (c.in_err-stmt.ensures.judged n deep))))

pub returns-in_err-mark-2-clause-judged : goal.returns-in_err-mark-2-clause-judged
returns-in_err-mark-2-clause-judged c = λ n deep. rw (stopped _ _ c.from_residual-in_err-mark-2.ensures.1) (told (Symbol.first n ∷ []) (fails_then (first_opened n _ (sym c.is_at_type.ensures ∙ c.if-is_at_type.false) (untrue c.if-is_at.ensures.1)) (fails_then (same_part (Symbol.simple n ∷ []) (c.in_ok-stmt.ensures.judged n deep)) (fixed_fails refl c.in_err-mark-2.ensures.refused))))

pub returns-then-is_at_type : goal.returns-then-is_at_type
returns-then-is_at_type c = record {
  derived = first_declares _ _ _ _ c.new-stmts.ensures c.in_ok-declaration.ensures.derived;
  judged = λ n deep. went (Symbol.first n ∷ []) [] (same_then (openings.first_declares n _ (sym c.is_at_type.ensures ∙ c.if-is_at_type.true)) (record { holds = c.in_ok-declaration.ensures.judged n deep }));
}

pub returns-then-is_at : goal.returns-then-is_at
returns-then-is_at c = record {
  derived = first_nothing _ _ _ _ c.in_ok-mark.ensures.read c.new-stmts.ensures;
  judged = λ n deep. went (Symbol.first n ∷ []) [] (same_then (same_takes c.in_ok-mark.ensures.read refl (omega arith)) same_reduces);
}

pub returns : goal.returns
returns c = record {
  derived = first_simple _ _ _ _ _ _ _ c.in_ok-stmt.ensures.derived c.in_ok-mark-2.ensures.read c.new-stmts.ensures c.in_ok-push.ensures.ok;
  judged = λ n deep. went (Symbol.first n ∷ []) [] (same_then (first_opened n _ (sym c.is_at_type.ensures ∙ c.if-is_at_type.false) (untrue c.if-is_at.ensures.1)) (same_then (same_part (Symbol.simple n ∷ []) (c.in_ok-stmt.ensures.judged n deep)) (same_then (same_fixed refl (omega arith) c.in_ok-mark-2.ensures.read) same_reduces)));
}
