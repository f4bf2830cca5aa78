use Rattle.std.proofs.Common.{[], ◌∷◌, refl, arith}
use Rattle.c_parse.specs.Symbols.{Symbol, Fixed, kernel_symbols}
use Rattle.c_parse.specs.Parts.{braced_symbols}
use Rattle.c_parse.proofs.KernelRules.{reads_kernel}
use Rattle.c_parse.proofs.Chains.{stopped, told, went, same_then, same_part, same_left, same_name, same_fixed, same_reduces, fails_then, part_fails, name_fails, fixed_fails}
use Rattle.c_parse.proofs.cursor.Cursor.kernel.Goals as goal

pub returns-in_err-result-clause-judged : goal.returns-in_err-result-clause-judged
returns-in_err-result-clause-judged c = rw (stopped _ _ c.from_residual.ensures.1) (told kernel_symbols {before = c.args.self.now.rest.now} (part_fails (Symbol.result 0 ∷ []) _ (c.in_err-result.ensures.judged 0 (omega arith))))

pub returns-in_err-name-clause-judged : goal.returns-in_err-name-clause-judged
returns-in_err-name-clause-judged c = rw (stopped _ _ c.from_residual-in_err-name.ensures.1) (told kernel_symbols {before = c.args.self.now.rest.now} (fails_then (same_part (Symbol.result 0 ∷ []) (c.in_ok-result.ensures.judged 0 (omega arith))) (name_fails c.in_err-name.ensures.refused)))

pub returns-in_err-mark-clause-judged : goal.returns-in_err-mark-clause-judged
returns-in_err-mark-clause-judged c = rw (stopped _ _ c.from_residual-in_err-mark.ensures.1) (told kernel_symbols {before = c.args.self.now.rest.now} (fails_then (same_part (Symbol.result 0 ∷ []) (c.in_ok-result.ensures.judged 0 (omega arith))) (fails_then (same_name (omega arith) c.in_ok-name.ensures.read) (fixed_fails refl c.in_err-mark.ensures.refused))))

pub returns-in_err-params-clause-judged : goal.returns-in_err-params-clause-judged
returns-in_err-params-clause-judged c = rw (stopped _ _ c.from_residual-in_err-params.ensures.1) (told kernel_symbols {before = c.args.self.now.rest.now} (fails_then (same_part (Symbol.result 0 ∷ []) (c.in_ok-result.ensures.judged 0 (omega arith))) (fails_then (same_name (omega arith) c.in_ok-name.ensures.read) (fails_then (same_fixed refl (omega arith) c.in_ok-mark.ensures.read) (part_fails (Symbol.params 1 ∷ []) _ (c.in_err-params.ensures.judged 1 (omega arith)))))))

pub returns-in_err-mark-2-clause-judged : goal.returns-in_err-mark-2-clause-judged
returns-in_err-mark-2-clause-judged c = rw (stopped _ _ c.from_residual-in_err-mark-2.ensures.1) (told kernel_symbols {before = c.args.self.now.rest.now} (fails_then (same_part (Symbol.result 0 ∷ []) (c.in_ok-result.ensures.judged 0 (omega arith))) (fails_then (same_name (omega arith) c.in_ok-name.ensures.read) (fails_then (same_fixed refl (omega arith) c.in_ok-mark.ensures.read) (fails_then (same_left (Symbol.params 1 ∷ []) (Symbol.fixed 1 Fixed.closing ∷ []) _ (c.in_ok-params.ensures.judged 1 (omega arith))) (fixed_fails refl c.in_err-mark-2.ensures.refused))))))

pub returns-in_err-body-clause-judged : goal.returns-in_err-body-clause-judged
returns-in_err-body-clause-judged c = rw (stopped _ _ c.from_residual-in_err-body.ensures.1) (told kernel_symbols {before = c.args.self.now.rest.now} (fails_then (same_part (Symbol.result 0 ∷ []) (c.in_ok-result.ensures.judged 0 (omega arith))) (fails_then (same_name (omega arith) c.in_ok-name.ensures.read) (fails_then (same_fixed refl (omega arith) c.in_ok-mark.ensures.read) (fails_then (same_left (Symbol.params 1 ∷ []) (Symbol.fixed 1 Fixed.closing ∷ []) _ (c.in_ok-params.ensures.judged 1 (omega arith))) (fails_then (same_fixed refl (omega arith) c.in_ok-mark-2.ensures.read) (part_fails (braced_symbols 1) _ (c.in_err-body.ensures.judged 0 (omega arith)))))))))

pub returns : goal.returns
returns c = record {
  derived = reads_kernel _ _ _ _ _ _ _ _ _ _ _ _ _ _ c.in_ok-result.ensures.derived c.in_ok-name.ensures.read c.in_ok-mark.ensures.read c.in_ok-params.ensures.derived c.in_ok-mark-2.ensures.read c.in_ok-body.ensures.derived;
  judged = went kernel_symbols [] {before = c.args.self.now.rest.now} (same_then (same_part (Symbol.result 0 ∷ []) (c.in_ok-result.ensures.judged 0 (omega arith))) (same_then (same_name (omega arith) c.in_ok-name.ensures.read) (same_then (same_fixed refl (omega arith) c.in_ok-mark.ensures.read) (same_then (same_left (Symbol.params 1 ∷ []) (Symbol.fixed 1 Fixed.closing ∷ []) _ (c.in_ok-params.ensures.judged 1 (omega arith))) (same_then (same_fixed refl (omega arith) c.in_ok-mark-2.ensures.read) (same_then (same_part (braced_symbols 1) (c.in_ok-body.ensures.judged 0 (omega arith))) same_reduces))))));
}
