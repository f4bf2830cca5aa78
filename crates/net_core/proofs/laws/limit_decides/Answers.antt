use Rattle.net_core.proofs.LawLemmas.{limit_is_long, rest_is_not_long}
use Rattle.net_core.proofs.laws.limit_decides.Goals as goal

pub returns : goal.returns
returns c = record { long = limit_is_long; short = rest_is_not_long (record { join = c.acts_join.ensures; consistent = c.acts_keep_a_queue.ensures.consistent }) }
