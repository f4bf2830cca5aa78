use Rattle.lsq_core.proofs.WaitLemmas.{range_none, range_next}
use Rattle.lsq_core.proofs.marks.Marks.next_row_of_words.Goals as goal

pub returns-in-None : goal.returns-in-None
returns-in-None c = range_none c.args.self.now c.args.from c.args.to c.requires.to c.in-None.ensures

pub returns-in-Some : goal.returns-in-Some
returns-in-Some c = range_next c.args.self.now c.args.from c.args.to c.in-Some.at c.requires.some c.requires.to c.in-Some.ensures
