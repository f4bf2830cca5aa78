use Rattle.net_core.specs.States.{IsOf, state_of}
use Rattle.worker_run.proofs.AssembleLemmas.{StraysTo}
use Rattle.worker_run.proofs.handing.add_strays.Given as goal

abbrev pub invariant-loop-worker : goal.invariant-loop-worker
invariant-loop-worker l = record {
  of : IsOf l.net l.into;
  strays : StraysTo l.workers (state_of l.fn.into) l.worker-index (state_of l.into);
}
