use Rattle.lsq_core.proofs.JoinLemmas.{stays_consistent}
use Rattle.lsq_core.proofs.KeepLemmas.{stays_in_order, stays_in_ports}
use Rattle.lsq_core.proofs.laws.acts_keep_a_queue.Goals as goal

pub returns-clause-consistent : goal.returns-clause-consistent
returns-clause-consistent c = stays_consistent

pub returns-clause-order : goal.returns-clause-order
returns-clause-order c = stays_in_order

pub returns-clause-ports : goal.returns-clause-ports
returns-clause-ports c = stays_in_ports
