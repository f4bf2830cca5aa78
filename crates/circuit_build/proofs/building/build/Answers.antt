use Rattle.std.proofs.Common.{rules}
use Rattle.circuit_build.proofs.CountAll.{shared}
use Rattle.circuit_build.proofs.StageRuns.{followed, completed}
use Rattle.circuit_build.proofs.building.build.Goals as goal

-- the net is that of the definition, as the clause before says
pub returns-clause-share : goal.returns-clause-share
returns-clause-share c = shared c.args.graph.now c.args.groups.now _ (search rules)

pub returns-clause-follows : goal.returns-clause-follows
returns-clause-follows c = followed c.args.graph.now c.args.groups.now _ (search rules)

pub returns-clause-completes : goal.returns-clause-completes
returns-clause-completes c =
    completed c.spent_is_at_rest.ensures c.args.graph.now c.args.groups.now _ (search rules)
