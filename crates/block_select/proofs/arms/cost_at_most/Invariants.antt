use Rattle.std.proofs.Common.{◌≡◌, ◌+◌, drop}
use Rattle.std.specs.Prelude.{sum_by}
use Rattle.block_select.specs.Arms.{step_cost}
use Rattle.block_select.proofs.arms.cost_at_most.Given as goal

abbrev pub invariant-loop-step : goal.invariant-loop-step
invariant-loop-step l = l.left + sum_by step_cost l.steps ≡ l.limit + sum_by step_cost (drop l.step-index l.steps)
