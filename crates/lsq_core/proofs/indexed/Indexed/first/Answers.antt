use Rattle.std.proofs.Common.{sym}
use Rattle.lsq_core.specs.Wants.{wanted}
use Rattle.lsq_core.proofs.PlaceLemmas.{find_none, first_found}
use Rattle.lsq_core.proofs.indexed.Indexed.first.Goals as goal

pub returns-in-None : goal.returns-in-None
returns-in-None c = sym (find_none (wanted c.args.want) c.args.self.now.queue.items c.in-None.ensures)

pub returns-in-Some : goal.returns-in-Some
returns-in-Some c = first_found (wanted c.args.want) c.args.self.now.queue.items c.in-Some.at c.at.result c.in-Some.ensures c.at.ensures.value
