use Rattle.std.proofs.Common.{◌≡◌, drop}
use Rattle.circuit_build.specs.Uses.{all_added}
use Rattle.circuit_build.proofs.uses.add_all.Given as goal

abbrev pub invariant-loop-value : goal.invariant-loop-value
invariant-loop-value l = all_added (drop l.value-index l.values) l.table ≡ all_added l.values l.initial.table
