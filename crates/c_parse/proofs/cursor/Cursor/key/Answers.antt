use Rattle.c_parse.proofs.SameWords.{refuses_key}
use Rattle.c_parse.proofs.cursor.Cursor.key.Goals as goal

pub returns-in-Some : goal.returns-in-Some
returns-in-Some c = record { read = c.in-Some.ensures.some; refused = tt }

pub returns-in-None : goal.returns-in-None
returns-in-None c = record { read = tt; refused = refuses_key _ _ _ _ c.in-None.ensures.none c.in-None.ensures.other c.refusal.ensures }
