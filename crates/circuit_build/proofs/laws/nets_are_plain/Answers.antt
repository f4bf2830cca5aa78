use Rattle.std.proofs.Common.{refl}
use Rattle.circuit_build.proofs.Plain.{one_slot}
use Rattle.circuit_build.proofs.laws.nets_are_plain.Goals as goal

pub returns : goal.returns
returns c = record { header = λ g gs. refl; slots = one_slot }
