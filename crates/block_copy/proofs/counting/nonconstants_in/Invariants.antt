use Rattle.std.proofs.Common.{◌≡◌, ◌+◌, ◌≤◌, drop}
use Rattle.block_copy.specs.Nonconstants.{nonconstants_in}
use Rattle.block_copy.proofs.counting.nonconstants_in.Given as goal

abbrev pub invariant-loop-step : goal.invariant-loop-step
invariant-loop-step l = record { few : l.count ≤ l.step-index; rest : l.count + nonconstants_in (drop l.step-index l.steps) ≡ nonconstants_in l.steps }
