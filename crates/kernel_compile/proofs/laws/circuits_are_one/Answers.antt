use Rattle.kernel_compile.proofs.Ones.{circuits_one}
use Rattle.kernel_compile.proofs.laws.circuits_are_one.Goals as goal

pub returns : goal.returns
returns c = circuits_one c.graphs_are_one.ensures c.a_net_is_placed_in_one_way.ensures
