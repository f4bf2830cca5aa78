use Rattle.std.proofs.Common.{not}
use Rattle.std.specs.List.{count_by}
use Rattle.net_check.proofs.EndLemmas.{Walking}
use Rattle.net_check.proofs.ends.met_queues.Given as goal

abbrev pub invariant-queues : goal.invariant-queues
invariant-queues l = Walking l.net l.exit l.from l.met.items

abbrev pub decreases-queues : goal.decreases-queues
decreases-queues l = count_by not l.met.items
