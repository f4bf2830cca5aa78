use Rattle.lsq_core.proofs.JoinLemmas.{acts_join}
use Rattle.lsq_core.proofs.laws.acts_join.Goals as goal

pub returns : goal.returns
returns c = acts_join
