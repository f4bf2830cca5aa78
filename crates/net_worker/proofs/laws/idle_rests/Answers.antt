use Rattle.net_worker.proofs.Resting.{idle_rests}
use Rattle.net_worker.proofs.laws.idle_rests.Goals as goal

pub returns : goal.returns
returns c = idle_rests
