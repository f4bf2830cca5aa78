use Rattle.net_check.proofs.ClosedWalks.{endless_on, cycle_of, none_endless, no_cycle}
use Rattle.net_check.proofs.laws.cycles_are_endless_walks.Goals as goal

pub returns-clause-endless : goal.returns-clause-endless
returns-clause-endless c = endless_on

pub returns-clause-cycle : goal.returns-clause-cycle
returns-clause-cycle c = cycle_of

pub returns-clause-none : goal.returns-clause-none
returns-clause-none c = λ net. (none_endless net, no_cycle net)
