use Rattle.std.proofs.Common.{◌≡◌, drop}
use Rattle.circuit_build.specs.Sorting.{greatest_depth, picked}
use Rattle.circuit_build.proofs.fronts.depth_of.Given as goal

abbrev pub invariant-loop-place : goal.invariant-loop-place
invariant-loop-place l = greatest_depth l.depth (picked l.accesses (drop l.place-index l.places)) ≡ greatest_depth 16 (picked l.accesses l.places)
