use Rattle.std.proofs.Common.{sym, ap, ◌∙◌, arith}
use Rattle.c_ast.specs.Pieces.{splices}
use Rattle.c_lex.proofs.Searches.{first_place_is, no_first_place, no_place_more}
use Rattle.c_lex.proofs.comment.first_splice.Goals as goal
use Rattle.el_base.proofs.DigitLemmas.{rest_is}

pub returns-then-splices-clause-place : goal.returns-then-splices-clause-place
returns-then-splices-clause-place c = sym (first_place_is splices c.args.text.now c.loop-i.i (omega arith) (ap splices (sym (rest_is c.args.text.now c.loop-i.i)) ∙ sym c.if-splices.ensures) c.loop-i.invariant)

pub loop-i-preserved : goal.loop-i-preserved
loop-i-preserved c = no_place_more splices c.args.text.now c.loop-i.i c.loop-i.invariant (ap splices (sym (rest_is c.args.text.now c.loop-i.i)) ∙ sym c.if-splices.ensures)

pub returns-clause-place : goal.returns-clause-place
returns-clause-place c = sym (no_first_place splices c.args.text.now (λ k below. c.loop-i.invariant k (omega (arith, below))))
