use Rattle.net_core.proofs.LawLemmas.{either_order}
use Rattle.net_core.proofs.laws.either_order.Goals as goal

pub returns : goal.returns
returns c = either_order (record { join = c.acts_join.ensures; consistent = c.acts_keep_a_queue.ensures.consistent })
