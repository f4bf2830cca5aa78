use Rattle.std.proofs.Common.{◌≡◌, ◌+◌, ◌≤◌, drop}
use Rattle.circuit_build.specs.Uses.{constants}
use Rattle.circuit_build.proofs.uses.constants.Given as goal

abbrev pub invariant-loop-step : goal.invariant-loop-step
invariant-loop-step l = record {
  place : l.place ≡ l.step-index;
  few : l.count ≤ l.place;
  all : l.count + constants (l.first + l.place) (drop l.step-index l.step-items) l.uses ≡ constants l.first l.step-items l.uses;
}
