use Rattle.cycle_engine.proofs.WorkedLemmas.{straight_cycles}
use Rattle.cycle_engine.proofs.laws.worked_net_cycles.Goals as goal

pub returns : goal.returns
returns c = straight_cycles
