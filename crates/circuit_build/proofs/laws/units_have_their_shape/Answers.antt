use Rattle.circuit_build.proofs.Ways.{units_shaped}
use Rattle.circuit_build.proofs.laws.units_have_their_shape.Goals as goal

pub returns : goal.returns
returns c = units_shaped
