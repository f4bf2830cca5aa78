use Rattle.c_lex.proofs.turn.directive_turn.Goals as goal

pub returns-then-not-position-clause-fits : goal.returns-then-not-position-clause-fits
returns-then-not-position-clause-fits c = c.breaks.ensures.fits _ _

pub returns-in-None-clause-fits : goal.returns-in-None-clause-fits
returns-in-None-clause-fits c = c.breaks-in-None.ensures.fits _ _
