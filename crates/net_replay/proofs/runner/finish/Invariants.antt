use Rattle.std.proofs.Common.{◌-◌}
use Rattle.net_core.specs.States.{IsOf, state_of}
use Rattle.net_replay.specs.private.Advances.{Advances}
use Rattle.net_replay.proofs.runner.finish.Given as goal

abbrev pub invariant-firings : goal.invariant-firings
invariant-firings l = record {
  of : IsOf l.net l.state;
  made : Advances l.net (state_of l.fn.state) (state_of l.state) l.limit l.keep l.made l.count l.fn.log l.log;
}

abbrev pub decreases-firings : goal.decreases-firings
decreases-firings l = l.limit - l.count
