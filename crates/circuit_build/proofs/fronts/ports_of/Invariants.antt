use Rattle.std.proofs.Common.{◌≡◌, ◌++◌, drop}
use Rattle.circuit_build.specs.Sorting.{all_ports, picked}
use Rattle.circuit_build.proofs.fronts.ports_of.Given as goal

abbrev pub invariant-loop-place : goal.invariant-loop-place
invariant-loop-place l = l.ports ++ all_ports l.blocks (picked l.accesses (drop l.place-index l.places)) ≡ all_ports l.blocks (picked l.accesses l.places)
