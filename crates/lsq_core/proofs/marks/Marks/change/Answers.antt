use Rattle.lsq_core.proofs.IndexLemmas.{changed_in_row}
use Rattle.lsq_core.proofs.marks.Marks.change.Goals as goal

pub returns-clause-shows : goal.returns-clause-shows
returns-clause-shows c =
    changed_in_row c.args.self.now c.put.new.self c.args.kind c.args.place c.row-row.result c.has.result c.args.new.now c.requires.kind c.requires.new c.row-row.ensures c.has.ensures c.put.ensures.shape c.put.ensures.bits
