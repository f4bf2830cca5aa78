use Rattle.circuit_build.proofs.StageRuns.{circuits_follow, circuits_complete}
use Rattle.circuit_build.proofs.follow_laws.circuits_follow.Goals as goal

pub returns : goal.returns
returns c = record { follow = circuits_follow; complete = circuits_complete c.spent_is_at_rest.ensures }
