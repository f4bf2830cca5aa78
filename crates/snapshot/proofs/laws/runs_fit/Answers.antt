use Rattle.snapshot.proofs.RunLemmas.{runs_fit}
use Rattle.snapshot.proofs.laws.runs_fit.Goals as goal

pub returns : goal.returns
returns c = runs_fit c.results_are_patterns.ensures.one c.results_are_patterns.ensures.two c.acts_keep_a_queue.ensures.order c.acts_keep_a_queue.ensures.ports
