use Rattle.cycle_engine.proofs.RousingLemmas.{rouses}
use Rattle.cycle_engine.proofs.laws.firings_rouse.Goals as goal

pub returns : goal.returns
returns c = rouses
