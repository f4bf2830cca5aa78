use Rattle.std.proofs.Common.{◌≡◌, drop}
use Rattle.block_merge.specs.Orders.{marked_all}
use Rattle.block_merge.proofs.walking.mark_stores.Given as goal

abbrev pub invariant-loop-step : goal.invariant-loop-step
invariant-loop-step l = marked_all l.marks.items (drop l.step-index l.steps) ≡ marked_all l.fn.marks.items l.steps
