use Rattle.net_worker.proofs.PortionMoves.{has_ins}
use Rattle.net_worker.proofs.portion.Portion.heads_beside.Goals as goal

pub invariant_of-result-clause-here : goal.invariant_of-result-clause-here
invariant_of-result-clause-here c = has_ins c.args.net.now c.args.self.now c.args.unit c.requires.of c.requires.here
