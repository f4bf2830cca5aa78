use Rattle.net_worker.proofs.Holdings.{made_holds}
use Rattle.net_worker.proofs.laws.made_holds.Goals as goal

pub returns : goal.returns
returns c = made_holds
