use Rattle.net_core.specs.States.{IsOf, state_of}
use Rattle.net_worker.specs.Views.{owner_in}
use Rattle.worker_run.specs.Crews.{AreLinked}
use Rattle.worker_run.specs.private.Handings.{AllHold, AllHoldOwn, AreChansHanded}
use Rattle.worker_run.proofs.handing.hand_chans.Given as goal

abbrev pub invariant-loop-chan : goal.invariant-loop-chan
invariant-loop-chan l = record {
  holds : AllHold l.net l.workers;
  own : AllHoldOwn l.tables l.workers;
  linked : AreLinked l.tables l.workers;
  of : IsOf l.net l.into;
  handed : AreChansHanded l.net (owner_in l.tables) l.fn.workers l.workers (state_of l.fn.into) (state_of l.into) l.chan;
}
