use Rattle.cycle_engine.proofs.OwnLemmas.{own_rouses}
use Rattle.cycle_engine.proofs.laws.firings_rouse_their_unit.Goals as goal

pub returns : goal.returns
returns c = own_rouses
