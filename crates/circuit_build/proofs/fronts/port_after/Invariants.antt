use Rattle.std.proofs.Common.{◌≡◌, drop}
use Rattle.circuit_build.specs.Fronts.{number_after}
use Rattle.circuit_build.proofs.fronts.port_after.Given as goal

abbrev pub invariant-loop-step : goal.invariant-loop-step
invariant-loop-step l = number_after l.port (drop l.step-index l.steps) ≡ number_after l.first l.steps
