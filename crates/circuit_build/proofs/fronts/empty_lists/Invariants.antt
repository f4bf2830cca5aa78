use Rattle.std.proofs.Common.{◌≡◌, replicate, []}
use Rattle.circuit_build.proofs.fronts.empty_lists.Given as goal

abbrev pub invariant-loop : goal.invariant-loop
invariant-loop l = l.table ≡ replicate l.counter []
