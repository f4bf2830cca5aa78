use Rattle.net_replay.proofs.EndLemmas.{one_end, limit_is_of_the_net}
use Rattle.net_replay.proofs.laws.one_end.Goals as goal

pub returns-clause-rest : goal.returns-clause-rest
returns-clause-rest c = one_end c.completion.ensures c.limit_decides.ensures.long c.limit_decides.ensures.short

pub returns-clause-limit : goal.returns-clause-limit
returns-clause-limit c = limit_is_of_the_net c.completion.ensures c.limit_decides.ensures.long c.limit_decides.ensures.short
