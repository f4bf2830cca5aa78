use Rattle.std.proofs.Common.{arith, ap, length}
use Rattle.c_lex.proofs.Numerals.{number_some}
use Rattle.c_lex.proofs.turn.number_turn.Goals as goal

pub returns-then-not-is_numeral-clause-fits : goal.returns-then-not-is_numeral-clause-fits
returns-then-not-is_numeral-clause-fits c = c.breaks.ensures.fits _

pub returns-in-Some-clause-fits : goal.returns-in-Some-clause-fits
returns-in-Some-clause-fits c = λ ds.
    (let some = number_some c.args.text.now c.requires.digit in omega (arith, some, ap length c.number_token-token.ensures.token), omega (arith, c.number_token-token.ensures.within))

pub returns-in-None-clause-fits : goal.returns-in-None-clause-fits
returns-in-None-clause-fits c = c.breaks-in-None.ensures.fits _
