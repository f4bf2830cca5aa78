use Rattle.net_core.specs.States.{state_of}
use Rattle.net_core.proofs.FindLemmas.{found_all}
use Rattle.net_core.proofs.state.State.find.Goals as goal

pub returns : goal.returns
returns c = found_all c.args.net.now (state_of c.args.self.now) c.find_from.result c.find_from.ensures
