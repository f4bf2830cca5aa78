use Rattle.net_worker.proofs.Ascending.{merged_ascends}
use Rattle.net_worker.proofs.laws.merged_ascends.Goals as goal

pub returns : goal.returns
returns c = merged_ascends
