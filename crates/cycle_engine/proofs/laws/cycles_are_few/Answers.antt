use Rattle.cycle_engine.proofs.BoundLemmas.{cycles_bound}
use Rattle.cycle_engine.proofs.laws.cycles_are_few.Goals as goal

pub returns : goal.returns
returns c = cycles_bound
