use Rattle.kernel_compile.proofs.Ones.{walks_within}
use Rattle.kernel_compile.proofs.laws.circuits_are_within_depth.Goals as goal

pub returns : goal.returns
returns c = walks_within c.walks_are_within_depth.ensures
