use Rattle.kernel_graph.proofs.Made.{stores_assignments}
use Rattle.kernel_graph.proofs.laws.stores_are_assignments.Goals as goal

pub returns : goal.returns
returns c = stores_assignments
