use Rattle.circuit_build.proofs.Small.{small}
use Rattle.circuit_build.proofs.laws.nets_are_small.Goals as goal

pub returns : goal.returns
returns c = small
