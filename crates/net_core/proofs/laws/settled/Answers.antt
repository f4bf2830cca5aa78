use Rattle.net_core.proofs.LawLemmas.{settled}
use Rattle.net_core.proofs.laws.settled.Goals as goal

pub returns : goal.returns
returns c = settled (record { join = c.acts_join.ensures; consistent = c.acts_keep_a_queue.ensures.consistent })
