use Rattle.c_lex.proofs.Marks.{chosen}
use Rattle.c_lex.proofs.piece.mark_of.Goals as goal

pub returns-in-Some-clause-mark : goal.returns-in-Some-clause-mark
returns-in-Some-clause-mark c = chosen _ _ _ _ _ c.in-Some.ensures.cases.0 c.first_mark.ensures.mark c.marks_from.ensures
