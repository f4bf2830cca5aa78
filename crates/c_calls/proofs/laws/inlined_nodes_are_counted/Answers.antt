use Rattle.c_calls.proofs.NodeSums.{inlined_nodes_are_counted}
use Rattle.c_calls.proofs.laws.inlined_nodes_are_counted.Goals as goal

pub returns : goal.returns
returns c = inlined_nodes_are_counted
