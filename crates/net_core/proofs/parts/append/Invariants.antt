use Rattle.std.proofs.Common.{◌≡◌, ◌++◌, take}
use Rattle.net_core.proofs.parts.append.Given as goal

abbrev pub invariant-loop-item : goal.invariant-loop-item
invariant-loop-item l = l.list ≡ l.initial.list ++ take l.item-index l.items
