use Rattle.std.proofs.Common.{◌≡◌, ◌+◌, ◌-◌, drop}
use Rattle.circuit_build.specs.Uses.{steps_added}
use Rattle.circuit_build.proofs.uses.add_steps.Given as goal

-- what the steps use that are done, the last ones
abbrev pub invariant-loop-done : goal.invariant-loop-done
invariant-loop-done l = l.table ≡ steps_added (l.first + (l.count - l.done)) (drop (l.count - l.done) l.steps) l.initial.table
