use Rattle.std.proofs.Common.{◌≡◌, take}
use Rattle.lsq_core.proofs.list_lsq.lists_of.Given as goal

abbrev pub invariant-loop-item : goal.invariant-loop-item
invariant-loop-item l = l.lists ≡ take l.item-index l.items
