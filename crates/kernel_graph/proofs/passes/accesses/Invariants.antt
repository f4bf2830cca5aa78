use Rattle.std.proofs.Common.{◌≡◌, ◌+◌, ◌≤◌, drop}
use Rattle.ir.specs.Accesses.{accesses_in}
use Rattle.kernel_graph.proofs.passes.accesses.Given as goal

abbrev pub invariant-loop-step : goal.invariant-loop-step
invariant-loop-step l = (l.count ≤ l.step-index) × (l.count + accesses_in (drop l.step-index l.steps) ≡ accesses_in l.steps)
