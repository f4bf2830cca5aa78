use Rattle.net_core.specs.States.{IsOf, state_of}
use Rattle.net_replay.specs.private.Advances.{Advances}
use Rattle.net_replay.proofs.visits.visit.Given as goal

abbrev pub invariant-loop : goal.invariant-loop
invariant-loop l = record {
  of : IsOf l.net l.state;
  made : Advances l.net (state_of l.fn.state) (state_of l.state) l.bounds.limit l.bounds.keep l.made l.count l.fn.log l.log;
}
