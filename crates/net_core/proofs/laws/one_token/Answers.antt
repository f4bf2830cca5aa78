use Rattle.net_core.proofs.Premises.{QueueLaws}
use Rattle.net_core.proofs.LawLemmas.{one_token, one_taker_enabled}
use Rattle.net_core.proofs.laws.one_token.Goals as goal

pub returns : goal.returns
returns c =
    let laws : QueueLaws = record { join = c.acts_join.ensures; consistent = c.acts_keep_a_queue.ensures.consistent } in
    record { count = one_token laws; taker = one_taker_enabled laws }
