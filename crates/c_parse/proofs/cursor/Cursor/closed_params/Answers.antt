use Rattle.std.proofs.Common.{[], ◌∷◌, refl, arith}
use Rattle.c_parse.specs.Symbols.{Symbol, Fixed}
use Rattle.c_parse.proofs.Chains.{stopped, told, went, same_then, same_left, same_fixed, fails_then, fixed_fails}
use Rattle.c_parse.proofs.JudgedPrograms.{reads_closed_params}
use Rattle.c_parse.proofs.cursor.Cursor.closed_params.Goals as goal

pub returns-in_err-params-clause-judged : goal.returns-in_err-params-clause-judged
returns-in_err-params-clause-judged c = rw (stopped _ _ c.from_residual.ensures.1) (c.in_err-params.ensures.judged 1 (omega arith))

pub returns-in_err-mark-clause-judged : goal.returns-in_err-mark-clause-judged
returns-in_err-mark-clause-judged c = rw (stopped _ _ c.from_residual-in_err-mark.ensures.1) (told (Symbol.params 1 ∷ []) {before = c.args.self.now.rest.now} (fails_then (same_left (Symbol.params 1 ∷ []) (Symbol.fixed 1 Fixed.closing ∷ []) [] (c.in_ok-params.ensures.judged 1 (omega arith))) (fixed_fails refl c.in_err-mark.ensures.refused)))

pub returns : goal.returns
returns c = record {
  derived = reads_closed_params _ _ _ _ _ c.in_ok-params.ensures.derived c.in_ok-mark.ensures.read;
  judged = went (Symbol.params 1 ∷ []) [] {before = c.args.self.now.rest.now} (same_then (same_left (Symbol.params 1 ∷ []) (Symbol.fixed 1 Fixed.closing ∷ []) [] (c.in_ok-params.ensures.judged 1 (omega arith))) (same_fixed refl (omega arith) c.in_ok-mark.ensures.read));
}
