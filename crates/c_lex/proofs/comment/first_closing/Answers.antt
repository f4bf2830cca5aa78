use Rattle.std.proofs.Common.{sym, ap, ◌∙◌, arith}
use Rattle.c_ast.specs.Pieces.{closes}
use Rattle.c_lex.proofs.Searches.{first_place_is, no_first_place, no_place_more}
use Rattle.c_lex.proofs.comment.first_closing.Goals as goal
use Rattle.el_base.proofs.DigitLemmas.{rest_is}

pub returns-then-closes-clause-place : goal.returns-then-closes-clause-place
returns-then-closes-clause-place c = sym (first_place_is closes c.args.text.now c.loop-i.i (omega arith) (ap closes (sym (rest_is c.args.text.now c.loop-i.i)) ∙ sym c.if-closes.ensures) c.loop-i.invariant)

pub loop-i-preserved : goal.loop-i-preserved
loop-i-preserved c = no_place_more closes c.args.text.now c.loop-i.i c.loop-i.invariant (ap closes (sym (rest_is c.args.text.now c.loop-i.i)) ∙ sym c.if-closes.ensures)

pub returns-clause-place : goal.returns-clause-place
returns-clause-place c = sym (no_first_place closes c.args.text.now (λ k below. c.loop-i.invariant k (omega (arith, below))))
