use Rattle.c_parse.proofs.SameWords.{refuses_mark}
use Rattle.c_parse.proofs.cursor.Cursor.mark.Goals as goal

pub returns-in-Some : goal.returns-in-Some
returns-in-Some c = record { read = c.in-Some.ensures.some; refused = tt }

pub returns-in-None : goal.returns-in-None
returns-in-None c = record { read = tt; refused = refuses_mark _ _ _ _ c.in-None.ensures.none c.in-None.ensures.other c.refusal.ensures }
