use Rattle.net_core.proofs.WorkedLemmas.{worked_nets_run}
use Rattle.net_core.proofs.laws.worked_nets_run.Goals as goal

pub returns : goal.returns
returns c = worked_nets_run
