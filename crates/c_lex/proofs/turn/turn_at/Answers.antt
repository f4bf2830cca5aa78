use Rattle.c_lex.proofs.turn.turn_at.Goals as goal

pub returns-then-is_ascii_digit-clause-fits : goal.returns-then-is_ascii_digit-clause-fits
returns-then-is_ascii_digit-clause-fits c = c.number_turn.ensures.fits _

pub returns-else-is_ascii_digit-clause-fits : goal.returns-else-is_ascii_digit-clause-fits
returns-else-is_ascii_digit-clause-fits c = c.mark_turn.ensures.fits _
