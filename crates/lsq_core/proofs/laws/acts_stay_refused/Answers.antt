use Rattle.lsq_core.proofs.StayLemmas.{stays_refused}
use Rattle.lsq_core.proofs.laws.acts_stay_refused.Goals as goal

pub returns : goal.returns
returns c = stays_refused
