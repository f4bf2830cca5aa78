use Rattle.net_core.specs.States.{IsOf, state_of}
use Rattle.net_worker.specs.Views.{owner_in}
use Rattle.worker_run.specs.private.Handings.{AllHold, AllHoldOwn, AreUnitsHanded}
use Rattle.worker_run.proofs.handing.hand_units.Given as goal

abbrev pub invariant-loop-unit : goal.invariant-loop-unit
invariant-loop-unit l = record {
  holds : AllHold l.net l.workers;
  own : AllHoldOwn l.tables l.workers;
  of : IsOf l.net l.into;
  handed : AreUnitsHanded l.net (owner_in l.tables) l.fn.workers l.workers (state_of l.fn.into) (state_of l.into) l.unit;
}
