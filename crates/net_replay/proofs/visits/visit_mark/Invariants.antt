use Rattle.net_core.specs.States.{IsOf, state_of}
use Rattle.net_replay.specs.private.Advances.{Advances}
use Rattle.net_replay.proofs.visits.visit_mark.Given as goal

abbrev pub invariant-loop-at : goal.invariant-loop-at
invariant-loop-at l = record {
  of : IsOf l.net l.state;
  made : Advances l.net (state_of l.fn.state) (state_of l.state) l.bounds.limit l.bounds.keep l.made l.count l.fn.log l.log;
}
