use Rattle.std.proofs.Common.{◌≡◌, ◌++◌, drop}
use Rattle.circuit_build.specs.Sorting.{all_groups, picked}
use Rattle.circuit_build.proofs.fronts.groups_of.Given as goal

abbrev pub invariant-loop-place : goal.invariant-loop-place
invariant-loop-place l = l.groups ++ all_groups l.port (picked l.accesses (drop l.place-index l.places)) ≡ all_groups 0 (picked l.accesses l.places)
