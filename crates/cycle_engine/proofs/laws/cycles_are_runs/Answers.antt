use Rattle.cycle_engine.proofs.JoinLemmas.{are_runs, are_long}
use Rattle.cycle_engine.proofs.laws.cycles_are_runs.Goals as goal

pub returns-clause-runs : goal.returns-clause-runs
returns-clause-runs c = are_runs

pub returns-clause-long : goal.returns-clause-long
returns-clause-long c = are_long c.limit_decides.ensures.long
