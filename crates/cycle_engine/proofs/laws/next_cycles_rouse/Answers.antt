use Rattle.cycle_engine.proofs.RousingLemmas.{next_rouses}
use Rattle.cycle_engine.proofs.laws.next_cycles_rouse.Goals as goal

pub returns : goal.returns
returns c = next_rouses
