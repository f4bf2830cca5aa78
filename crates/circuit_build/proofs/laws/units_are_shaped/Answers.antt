use Rattle.circuit_build.proofs.QueueShapes.{units_shaped}
use Rattle.circuit_build.proofs.laws.units_are_shaped.Goals as goal

pub returns : goal.returns
returns c = units_shaped
