use Rattle.std.proofs.Common.{◌≡◌, take}
use Rattle.net_types.proofs.copies.copy_lists.Given as goal

abbrev pub invariant-loop-list : goal.invariant-loop-list
invariant-loop-list g l = l.copies ≡ take l.list-index l.lists
