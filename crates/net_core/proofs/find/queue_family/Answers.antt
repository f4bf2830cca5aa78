use Rattle.net_core.proofs.QueueFindLemmas.{rank_at}
use Rattle.net_core.proofs.find.queue_family.Goals as goal

pub returns : goal.returns
returns c = rank_at c.args.at _ c.requires
