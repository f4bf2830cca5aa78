use Rattle.lsq_core.proofs.IndexLemmas.{retired}
use Rattle.lsq_core.proofs.marks.Marks.retire.Goals as goal

pub returns-clause-shows : goal.returns-clause-shows
returns-clause-shows c = retired c.args.self.now c.leave.new.self c.args.kind c.args.head c.args.old.now c.requires.kind c.leave.ensures.shape c.leave.ensures.bits
