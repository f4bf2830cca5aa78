use Rattle.c_lex.proofs.Determined.{one_reading}
use Rattle.c_lex.proofs.lexer.texts_have_one_reading.Goals as goal

pub returns : goal.returns
returns c = one_reading
