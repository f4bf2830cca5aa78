use Rattle.std.proofs.Common.{true, sym, ◌∙◌}
use Rattle.lsq_core.proofs.IndexLemmas.{added_in, added_out}
use Rattle.lsq_core.proofs.marks.Marks.add.Goals as goal

pub returns-then-has-clause-shows : goal.returns-then-has-clause-shows
returns-then-has-clause-shows c =
    added_in c.args.self.now c.put.new.self c.args.kind c.args.place c.row-row.result true c.args.new.now c.requires.kind c.requires.new c.row-row.ensures (sym c.if-has.true ∙ c.has.ensures) c.put.ensures.shape c.put.ensures.bits

pub returns-else-has-clause-shows : goal.returns-else-has-clause-shows
returns-else-has-clause-shows c = added_out c.args.self.now c.args.kind c.args.place c.args.new.now c.requires.kind c.requires.new (sym c.has.ensures ∙ c.if-has.false)
