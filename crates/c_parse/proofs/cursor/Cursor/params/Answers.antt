use Rattle.std.proofs.Common.{[], ◌∷◌, refl, sym, arith}
use Rattle.c_ast.specs.declared.mark.Mark.TheVariants as mark
use Rattle.c_parse.specs.Symbols.{Symbol, Reduction, Fixed}
use Rattle.c_parse.specs.Parts.{param_list_symbols}
use Rattle.c_parse.proofs.Rules.{if_ok, reads_from}
use Rattle.c_parse.proofs.KernelRules.{reads_no_params, reads_void_params, reads_params}
use Rattle.c_parse.proofs.Chains.{went, judges_part, same_done, same_to, same_then, same_takes, same_reduces}
use Rattle.c_parse.proofs.Exits.{untrue}
use Rattle.c_parse.proofs.Openings.{alike_at, params_opened}
use Rattle.c_parse.proofs.cursor.Cursor.params.Goals as goal

pub returns-then-is_at : goal.returns-then-is_at
returns-then-is_at c = record {
  derived = reads_no_params _ _ c.new.ensures;
  judged = λ n small. (alike_at (Symbol.params n) (Symbol.fixed n Fixed.closing) mark.Close n Reduction.no_params _ (c.if-is_at.ensures.0 refl) refl refl).holds;
}

pub returns-in-Some : goal.returns-in-Some
returns-in-Some c = record {
  derived = reads_void_params _ _ _ _ c.in-Some.ensures.some c.new-in-Some.ensures;
  judged = λ n small. went (Symbol.params n ∷ []) (Symbol.fixed n Fixed.closing ∷ []) (same_then (same_takes c.in-Some.ensures.some refl (omega arith)) same_reduces);
}

pub returns : goal.returns
returns c = record {
  derived = if_ok _ _ _ (λ ps r. reads_params ps _ _ (reads_from _ _ _ _ r (sym c.in_default.ensures.none))) c.param_list.ensures.derived;
  judged = λ n small. judges_part (param_list_symbols n) (Symbol.fixed n Fixed.closing ∷ []) (Symbol.fixed n Fixed.closing ∷ []) _ _ (same_to (params_opened n _ (untrue c.if-is_at.ensures.1) c.in_default.ensures.other) c.in_default.ensures.none) same_done (c.param_list.ensures.judged n small);
}
