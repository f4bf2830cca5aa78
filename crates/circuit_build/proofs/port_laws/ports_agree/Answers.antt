use Rattle.circuit_build.proofs.CountSample.{sample_has_room}
use Rattle.circuit_build.proofs.CountWhole.{ports_of_nets}
use Rattle.circuit_build.proofs.port_laws.ports_agree.Goals as goal

pub returns : goal.returns
returns c = record { agree = ports_of_nets; room = sample_has_room }
