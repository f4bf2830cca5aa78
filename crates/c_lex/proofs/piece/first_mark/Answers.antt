use Rattle.std.proofs.Common.{sym, ap, ◌∙◌, arith}
use Rattle.c_ast.specs.Numerals.{begins}
use Rattle.c_ast.specs.Texts.{mark_text}
use Rattle.c_lex.proofs.Marks.{begins_le}
use Rattle.c_lex.proofs.Searches.{find_is, find_none, none_passes_more}
use Rattle.c_lex.proofs.piece.first_mark.Goals as goal

pub returns-then-begins-clause-mark : goal.returns-then-begins-clause-mark
returns-then-begins-clause-mark c = sym (find_is (λ m. begins (mark_text m) c.args.text.now) c.args.all.now c.loop-mark.mark-index _ c.loop-mark-test.true
    (ap (λ n. begins n c.args.text.now) (sym c.text.ensures ∙ sym c.as_bytes.ensures.value) ∙ sym c.begins.ensures ∙ c.if-begins.true) c.loop-mark.invariant)

pub returns-then-begins-clause-within : goal.returns-then-begins-clause-within
returns-then-begins-clause-within c = begins_le _ _ (ap (λ n. begins n c.args.text.now) (sym c.text.ensures ∙ sym c.as_bytes.ensures.value) ∙ sym c.begins.ensures ∙ c.if-begins.true)

pub loop-mark-preserved : goal.loop-mark-preserved
loop-mark-preserved c = none_passes_more (λ m. begins (mark_text m) c.args.text.now) c.args.all.now c.loop-mark.mark-index _ c.loop-mark-test.true c.loop-mark.invariant
    (ap (λ n. begins n c.args.text.now) (sym c.text.ensures ∙ sym c.as_bytes.ensures.value) ∙ sym c.begins.ensures ∙ c.if-begins.false)

pub returns-clause-mark : goal.returns-clause-mark
returns-clause-mark c = sym (find_none (λ m. begins (mark_text m) c.args.text.now) c.args.all.now (λ k e below. c.loop-mark.invariant k e (omega (arith, below))))
