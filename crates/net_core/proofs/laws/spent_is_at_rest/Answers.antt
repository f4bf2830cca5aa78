use Rattle.net_core.proofs.RestLemmas.{spent_is_at_rest}
use Rattle.net_core.proofs.laws.spent_is_at_rest.Goals as goal

pub returns : goal.returns
returns c = spent_is_at_rest
