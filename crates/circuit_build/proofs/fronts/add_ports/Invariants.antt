use Rattle.std.proofs.Common.{◌≡◌, ◌++◌, drop}
use Rattle.circuit_build.specs.Fronts.{ports_at}
use Rattle.circuit_build.proofs.fronts.add_ports.Given as goal

abbrev pub invariant-loop-place : goal.invariant-loop-place
invariant-loop-place l = l.ports ++ ports_at l.steps (drop l.place-index l.places) ≡ l.initial.ports ++ ports_at l.steps l.places
