use Rattle.std.proofs.Common.{◌≡◌, ◌++◌, drop}
use Rattle.circuit_build.specs.Jumps.{taken}
use Rattle.circuit_build.proofs.jumps.take_all.Given as goal

abbrev pub invariant-loop-value : goal.invariant-loop-value
invariant-loop-value l = l.with ++ taken (drop l.value-index l.values) l.rest ≡ taken l.values l.fn.ends
