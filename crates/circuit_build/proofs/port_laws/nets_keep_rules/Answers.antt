use Rattle.circuit_build.proofs.CountAll.{rules_kept, sample_asked}
use Rattle.circuit_build.proofs.port_laws.nets_keep_rules.Goals as goal

pub returns : goal.returns
returns c = record { rules = rules_kept; asked = sample_asked }
