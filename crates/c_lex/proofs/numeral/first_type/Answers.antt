use Rattle.std.proofs.Common.{sym, ◌∙◌, arith}
use Rattle.c_ast.specs.Numerals.{holds}
use Rattle.c_lex.proofs.Searches.{find_is, find_none, none_passes_more}
use Rattle.c_lex.proofs.numeral.first_type.Goals as goal

pub returns-then-holds : goal.returns-then-holds
returns-then-holds c = sym (find_is (holds c.args.value) c.args.types.now c.loop-ty.ty-index _ c.loop-ty-test.true (sym c.holds.ensures ∙ c.if-holds.true) c.loop-ty.invariant)

pub loop-ty-preserved : goal.loop-ty-preserved
loop-ty-preserved c = none_passes_more (holds c.args.value) c.args.types.now c.loop-ty.ty-index _ c.loop-ty-test.true c.loop-ty.invariant (sym c.holds.ensures ∙ c.if-holds.false)

pub returns : goal.returns
returns c = sym (find_none (holds c.args.value) c.args.types.now (λ k e below. c.loop-ty.invariant k e (omega (arith, below))))
