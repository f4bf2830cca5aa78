use Rattle.std.proofs.Common.{◌≡◌, drop}
use Rattle.block_args.specs.Walks.{walk, visited_all}
use Rattle.block_args.proofs.walk.visit_all.Given as goal

abbrev pub invariant-loop-block : goal.invariant-loop-block
invariant-loop-block l = visited_all l.closed (walk l.seen.items l.ahead.items) (drop l.block-index l.blocks) ≡ visited_all l.closed (walk l.fn.seen.items l.fn.ahead.items) l.blocks
