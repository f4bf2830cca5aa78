use Rattle.std.proofs.Common.{◌≡◌, take}
use Rattle.block_rules.proofs.division.steps_of.Given as goal

abbrev pub invariant-loop-item : goal.invariant-loop-item
invariant-loop-item l = l.steps ≡ take l.item-index l.items
