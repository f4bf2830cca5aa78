use Rattle.circuit_build.proofs.Once.{stand_once}
use Rattle.circuit_build.proofs.laws.units_stand_once.Goals as goal

pub returns : goal.returns
returns c = stand_once
