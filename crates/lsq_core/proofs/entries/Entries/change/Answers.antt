use Rattle.std.proofs.Common.{refl, sym, ◌∙◌}
use Rattle.lsq_core.specs.Wants.{wanted, changed_by}
use Rattle.lsq_core.specs.Views.{entry_at}
use Rattle.lsq_core.proofs.PlaceLemmas.{change_here, change_none}
use Rattle.lsq_core.proofs.entries.Entries.change.Goals as goal

pub returns-in-Some-clause-items : goal.returns-in-Some-clause-items
returns-in-Some-clause-items c =
    c.alter.ensures.items
    ∙ change_here (wanted c.args.want) (changed_by c.args.made) c.args.self.now.queue.items c.in-Some.at (entry_at c.args.self.now.queue.items c.in-Some.at) (changed_by c.args.made (entry_at c.args.self.now.queue.items c.in-Some.at)) c.in-Some.ensures refl refl

pub returns-in_default-clause-items : goal.returns-in_default-clause-items
returns-in_default-clause-items c = sym (change_none (wanted c.args.want) (changed_by c.args.made) c.args.self.now.queue.items c.in_default.ensures)
