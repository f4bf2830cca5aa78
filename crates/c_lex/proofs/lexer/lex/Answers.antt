use Rattle.c_lex.proofs.Determined.{only}
use Rattle.c_lex.proofs.Fitting.{answer_fits}
use Rattle.c_lex.proofs.lexer.lex.Goals as goal

pub returns-clause-only : goal.returns-clause-only
returns-clause-only c = only _ _ c.lex_text.ensures

pub returns-clause-fits : goal.returns-clause-fits
returns-clause-fits c = answer_fits _ _ c.lex_text.ensures
