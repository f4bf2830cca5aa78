use Rattle.std.proofs.Common.{◌≡◌, [], map, take}
use Rattle.c_calls.specs.Counts.{blocks_nodes}
use Rattle.c_inline.specs.Code.{at_most_u64}
use Rattle.c_inline.proofs.count.blocks.Given as goal

abbrev pub invariant-loop-helper : goal.invariant-loop-helper
invariant-loop-helper l = l.blocks ≡ map at_most_u64 (blocks_nodes [] (take l.helper-index l.helpers))
