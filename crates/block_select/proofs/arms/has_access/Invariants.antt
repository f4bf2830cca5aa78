use Rattle.std.proofs.Common.{◌≡◌, drop}
use Rattle.ir.specs.Accesses.{accesses_in}
use Rattle.block_select.proofs.arms.has_access.Given as goal

abbrev pub invariant-loop-step : goal.invariant-loop-step
invariant-loop-step l = accesses_in l.steps ≡ accesses_in (drop l.step-index l.steps)
