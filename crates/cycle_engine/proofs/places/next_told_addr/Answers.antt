use Rattle.net_core.specs.States.{state_of}
use Rattle.cycle_engine.proofs.PlaceLemmas.{told_addr}
use Rattle.cycle_engine.proofs.places.next_told_addr.Goals as goal

pub returns : goal.returns
returns c = told_addr c.args.net.now (state_of c.args.state.now) c.args.unit c.args.queue.now c.requires.view c.args.from c.next_addr.result c.next_addr.ensures
