use Rattle.std.proofs.Common.{◌≤◌}
use Rattle.net_core.specs.States.{state_of}
use Rattle.net_core.specs.private.Searches.{NoneIn}
use Rattle.net_core.proofs.find.first_in.Given as goal

abbrev pub invariant-loop-number : goal.invariant-loop-number
invariant-loop-number g l = record {
  from : l.fn.numbers.start ≤ l.number;
  none : NoneIn l.net (state_of (g.S.Searched.stored l.state)) l.unit l.family l.fn.numbers.start l.number;
}
