use Rattle.std.proofs.Common.{sym, ◌∙◌}
use Rattle.lsq_core.proofs.IndexLemmas.{left_in, left_out}
use Rattle.lsq_core.proofs.marks.Marks.leave.Goals as goal

pub returns-then-has-clause-bits : goal.returns-then-has-clause-bits
returns-then-has-clause-bits c = left_in c.args.self.now c.put.new.self c.args.kind c.args.place c.row-row.result c.args.old.now c.row-row.ensures c.put.ensures.bits

pub returns-else-has-clause-bits : goal.returns-else-has-clause-bits
returns-else-has-clause-bits c = left_out c.args.self.now c.args.kind c.args.place c.args.old.now c.requires.kind c.requires.old (sym c.has.ensures ∙ c.if-has.false)
