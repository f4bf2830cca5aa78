use Rattle.std.proofs.Common.{arith}
use Rattle.c_lex.proofs.turn.mark_turn.Goals as goal

pub returns-in-Some-clause-fits : goal.returns-in-Some-clause-fits
returns-in-Some-clause-fits c = λ ds. (c.mark_len.ensures.some, omega (arith, c.mark_len.ensures.len, c.in-Some.ensures.within))

pub returns-in-None-clause-fits : goal.returns-in-None-clause-fits
returns-in-None-clause-fits c = c.breaks.ensures.fits _
