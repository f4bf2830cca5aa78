use Rattle.circuit_build.proofs.Served.{headers_met}
use Rattle.circuit_build.proofs.laws.headers_are_met.Goals as goal

pub returns : goal.returns
returns c = headers_met
