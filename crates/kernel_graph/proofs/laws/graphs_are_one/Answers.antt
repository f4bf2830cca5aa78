use Rattle.kernel_graph.proofs.Tables.{graphs_one}
use Rattle.kernel_graph.proofs.laws.graphs_are_one.Goals as goal

pub returns : goal.returns
returns c = graphs_one
