use Rattle.net_core.proofs.LawLemmas.{completion}
use Rattle.net_core.proofs.laws.completion.Goals as goal

pub returns : goal.returns
returns c = completion (record { join = c.acts_join.ensures; consistent = c.acts_keep_a_queue.ensures.consistent })
