use Rattle.net_runs.proofs.LawLemmas.{complete}
use Rattle.net_runs.proofs.laws.sound_runs_are_not_refused.Goals as goal

pub returns : goal.returns
returns c = complete
