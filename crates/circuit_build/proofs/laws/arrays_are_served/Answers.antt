use Rattle.circuit_build.proofs.Served.{arrays_served}
use Rattle.circuit_build.proofs.laws.arrays_are_served.Goals as goal

pub returns : goal.returns
returns c = arrays_served
