use Rattle.worker_run.proofs.SweepLemmas.{swept_self}
use Rattle.worker_run.proofs.sweeping.sweep_asked.Goals as goal

pub returns-then-not-has-clause-swept : goal.returns-then-not-has-clause-swept
returns-then-not-has-clause-swept g c = swept_self c.args.tables.now c.args.worker.now c.requires.made
