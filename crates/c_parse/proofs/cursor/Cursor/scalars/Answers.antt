use Rattle.c_parse.proofs.JudgedPrograms.{reads_scalars, scalars_read, scalars_stop}
use Rattle.c_parse.proofs.cursor.Cursor.scalars.Goals as goal

pub returns-in-Ok-clause-derived : goal.returns-in-Ok-clause-derived
returns-in-Ok-clause-derived c = reads_scalars _ _ _ _ _ _ c.parted.ensures c.in-Ok.ensures.derived (c.behind-self.ensures _ _ c.parted.ensures.split c.in-Ok.ensures.derived.split)

pub returns-in-Ok-clause-judged : goal.returns-in-Ok-clause-judged
returns-in-Ok-clause-judged c = scalars_read _ _ _ _ _ _ c.parted.ensures c.in-Ok.ensures.derived (c.behind-self.ensures _ _ c.parted.ensures.split c.in-Ok.ensures.derived.split) c.in-Ok.ensures.judged

pub returns-in-Err-clause-judged : goal.returns-in-Err-clause-judged
returns-in-Err-clause-judged c = scalars_stop _ _ _ _ _ c.parted.ensures c.in-Err.ensures.judged c.stop_before.ensures
