use Rattle.std.proofs.Common.{◌≡◌}
use Rattle.circuit_build.specs.Uses.{zeros}
use Rattle.circuit_build.proofs.edges.zeros.Given as goal

abbrev pub invariant-loop-i : goal.invariant-loop-i
invariant-loop-i l = l.table ≡ zeros l.i
