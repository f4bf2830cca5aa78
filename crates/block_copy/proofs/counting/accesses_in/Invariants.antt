use Rattle.std.proofs.Common.{◌≡◌, ◌+◌, ◌≤◌, drop}
use Rattle.ir.specs.Accesses.{accesses_in}
use Rattle.block_copy.proofs.counting.accesses_in.Given as goal

abbrev pub invariant-loop-step : goal.invariant-loop-step
invariant-loop-step l = record { few : l.count ≤ l.step-index; rest : l.count + accesses_in (drop l.step-index l.steps) ≡ accesses_in l.steps }
