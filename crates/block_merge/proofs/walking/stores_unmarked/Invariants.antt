use Rattle.std.proofs.Common.{◌≡◌, drop}
use Rattle.block_merge.specs.Orders.{stores_unmarked}
use Rattle.block_merge.proofs.walking.stores_unmarked.Given as goal

abbrev pub invariant-loop-step : goal.invariant-loop-step
invariant-loop-step l = stores_unmarked l.marks (drop l.step-index l.steps) ≡ stores_unmarked l.marks l.steps
