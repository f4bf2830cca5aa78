use Rattle.std.proofs.Common.{◌≡◌, drop}
use Rattle.circuit_build.specs.Uses.{branches_added}
use Rattle.circuit_build.proofs.uses.add_branches.Given as goal

abbrev pub invariant-loop-count : goal.invariant-loop-count
invariant-loop-count l = branches_added l.cond l.value (drop l.count-index l.for_yes) l.for_no l.table ≡ branches_added l.cond 0 l.for_yes l.for_no l.initial.table
