use Rattle.std.proofs.Common.{suc, [], ◌∷◌, refl}
use Rattle.c_parse.specs.Symbols.{Symbol, Fixed}
use Rattle.c_parse.specs.Parts.{head_symbols}
use Rattle.c_parse.proofs.StmtRules.{reads_head}
use Rattle.c_parse.proofs.Chains.{stopped, told, went, same_then, same_part, same_left, same_fixed, fails_then, part_fails, fixed_fails, fixed_deep, full, inner, room}
use Rattle.c_parse.proofs.cursor.Cursor.head.Goals as goal

pub returns-in_err-open-clause-judged : goal.returns-in_err-open-clause-judged
returns-in_err-open-clause-judged c = λ n deep. rw (stopped _ _ c.from_residual.ensures.1) (told (head_symbols (suc n)) (fixed_fails refl c.in_err-open.ensures.refused))

pub returns-in_err-depth-clause-judged : goal.returns-in_err-depth-clause-judged
returns-in_err-depth-clause-judged c = λ n deep. rw (stopped _ _ c.from_residual-in_err-depth.ensures.1) (told (head_symbols (suc n)) (fixed_deep refl c.in_ok-open.ensures.read (full _ _ deep c.in_err-depth.ensures.none_left) c.in_err-depth.ensures.place))

pub returns-in_err-first-clause-judged : goal.returns-in_err-first-clause-judged
returns-in_err-first-clause-judged c = λ n deep. let d = inner _ _ _ deep c.in_ok-depth.ensures.one_less in let r = room _ _ _ deep c.in_ok-depth.ensures.one_less in rw (stopped _ _ c.from_residual-in_err-first.ensures.1) (told (head_symbols (suc n)) (fails_then (same_fixed refl r c.in_ok-open.ensures.read) (part_fails (Symbol.first (suc n) ∷ []) _ (c.in_err-first.ensures.judged (suc n) d))))

pub returns-in_err-cond-clause-judged : goal.returns-in_err-cond-clause-judged
returns-in_err-cond-clause-judged c = λ n deep. let d = inner _ _ _ deep c.in_ok-depth.ensures.one_less in let r = room _ _ _ deep c.in_ok-depth.ensures.one_less in rw (stopped _ _ c.from_residual-in_err-cond.ensures.1) (told (head_symbols (suc n)) (fails_then (same_fixed refl r c.in_ok-open.ensures.read) (fails_then (same_part (Symbol.first (suc n) ∷ []) (c.in_ok-first.ensures.judged (suc n) d)) (part_fails (Symbol.condition (suc n) ∷ []) _ (c.in_err-cond.ensures.judged (suc n) d)))))

pub returns-in_err-mark-clause-judged : goal.returns-in_err-mark-clause-judged
returns-in_err-mark-clause-judged c = λ n deep. let d = inner _ _ _ deep c.in_ok-depth.ensures.one_less in let r = room _ _ _ deep c.in_ok-depth.ensures.one_less in rw (stopped _ _ c.from_residual-in_err-mark.ensures.1) (told (head_symbols (suc n)) (fails_then (same_fixed refl r c.in_ok-open.ensures.read) (fails_then (same_part (Symbol.first (suc n) ∷ []) (c.in_ok-first.ensures.judged (suc n) d)) (fails_then (same_left (Symbol.condition (suc n) ∷ []) (Symbol.fixed (suc n) Fixed.semicolon ∷ []) _ (c.in_ok-cond.ensures.judged (suc n) d)) (fixed_fails refl c.in_err-mark.ensures.refused)))))

pub returns-in_err-step-clause-judged : goal.returns-in_err-step-clause-judged
returns-in_err-step-clause-judged c = λ n deep. let d = inner _ _ _ deep c.in_ok-depth.ensures.one_less in let r = room _ _ _ deep c.in_ok-depth.ensures.one_less in rw (stopped _ _ c.from_residual-in_err-step.ensures.1) (told (head_symbols (suc n)) (fails_then (same_fixed refl r c.in_ok-open.ensures.read) (fails_then (same_part (Symbol.first (suc n) ∷ []) (c.in_ok-first.ensures.judged (suc n) d)) (fails_then (same_left (Symbol.condition (suc n) ∷ []) (Symbol.fixed (suc n) Fixed.semicolon ∷ []) _ (c.in_ok-cond.ensures.judged (suc n) d)) (fails_then (same_fixed refl r c.in_ok-mark.ensures.read) (record { holds = c.in_err-step.ensures.judged (suc n) d }))))))

pub returns-in_err-mark-2-clause-judged : goal.returns-in_err-mark-2-clause-judged
returns-in_err-mark-2-clause-judged c = λ n deep. let d = inner _ _ _ deep c.in_ok-depth.ensures.one_less in let r = room _ _ _ deep c.in_ok-depth.ensures.one_less in rw (stopped _ _ c.from_residual-in_err-mark-2.ensures.1) (told (head_symbols (suc n)) (fails_then (same_fixed refl r c.in_ok-open.ensures.read) (fails_then (same_part (Symbol.first (suc n) ∷ []) (c.in_ok-first.ensures.judged (suc n) d)) (fails_then (same_left (Symbol.condition (suc n) ∷ []) (Symbol.fixed (suc n) Fixed.semicolon ∷ []) _ (c.in_ok-cond.ensures.judged (suc n) d)) (fails_then (same_fixed refl r c.in_ok-mark.ensures.read) (fails_then (same_left (Symbol.last (suc n) ∷ []) (Symbol.fixed (suc n) Fixed.closing ∷ []) _ (c.in_ok-step.ensures.judged (suc n) d)) (fixed_fails refl c.in_err-mark-2.ensures.refused)))))))

pub returns : goal.returns
returns c = record {
  derived = reads_head _ _ _ _ _ _ _ _ _ _ _ _ _ c.in_ok-open.ensures.read c.in_ok-first.ensures.derived c.in_ok-cond.ensures.derived c.in_ok-mark.ensures.read c.in_ok-step.ensures.derived c.in_ok-mark-2.ensures.read;
  judged = λ n deep. let d = inner _ _ _ deep c.in_ok-depth.ensures.one_less in let r = room _ _ _ deep c.in_ok-depth.ensures.one_less in went (head_symbols (suc n)) [] (same_then (same_fixed refl r c.in_ok-open.ensures.read) (same_then (same_part (Symbol.first (suc n) ∷ []) (c.in_ok-first.ensures.judged (suc n) d)) (same_then (same_left (Symbol.condition (suc n) ∷ []) (Symbol.fixed (suc n) Fixed.semicolon ∷ []) _ (c.in_ok-cond.ensures.judged (suc n) d)) (same_then (same_fixed refl r c.in_ok-mark.ensures.read) (same_then (same_left (Symbol.last (suc n) ∷ []) (Symbol.fixed (suc n) Fixed.closing ∷ []) _ (c.in_ok-step.ensures.judged (suc n) d)) (same_fixed refl r c.in_ok-mark-2.ensures.read))))));
}
