use Rattle.std.proofs.Common.{◌≡◌, ◌++◌, drop}
use Rattle.circuit_build.specs.Fronts.{numbers_from}
use Rattle.circuit_build.proofs.fronts.group_from.Given as goal

abbrev pub invariant-loop-step : goal.invariant-loop-step
invariant-loop-step l = l.group ++ numbers_from l.port (drop l.step-index l.steps) ≡ numbers_from l.first l.steps
