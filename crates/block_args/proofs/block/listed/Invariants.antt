use Rattle.std.proofs.Common.{◌≡◌, take}
use Rattle.block_args.proofs.block.listed.Given as goal

abbrev pub invariant-loop-item : goal.invariant-loop-item
invariant-loop-item l = l.list ≡ take l.item-index l.items
