use Rattle.std.proofs.Common.{◌+◌, not, length}
use Rattle.std.specs.List.{count_by}
use Rattle.block_args.specs.Walks.{walk}
use Rattle.block_args.proofs.Walking.{IsWalked}
use Rattle.block_args.proofs.walk.reached.Given as goal

abbrev pub invariant-walk : goal.invariant-walk
invariant-walk l = IsWalked l.before l.closed l.starts (walk l.seen.items l.ahead.items)

abbrev pub decreases-walk : goal.decreases-walk
decreases-walk l = count_by not l.seen.items + length l.ahead.items
