use Rattle.lsq_core.proofs.IndexLemmas.{changed}
use Rattle.lsq_core.proofs.marks.Marks.transfer.Goals as goal

pub returns-clause-shows : goal.returns-clause-shows
returns-clause-shows c =
    changed c.args.self.now c.leave.new.self c.put.new.self c.args.kind c.args.place c.row-row.result c.has.result c.args.old.now c.args.new.now c.requires.kind c.requires.new c.leave.ensures.shape c.leave.ensures.bits
    c.row-row.ensures c.has.ensures c.put.ensures.shape c.put.ensures.bits
