use Rattle.net_core.specs.States.{state_of}
use Rattle.cycle_engine.proofs.PlaceLemmas.{told_data}
use Rattle.cycle_engine.proofs.places.next_told_data.Goals as goal

pub returns : goal.returns
returns c = told_data c.args.net.now (state_of c.args.state.now) c.args.unit c.args.queue.now c.requires.view c.args.from c.next_data.result c.next_data.ensures
