use Rattle.block_args.proofs.Listing.{PushedTo}
use Rattle.block_args.proofs.live.push_all.Given as goal

abbrev pub invariant-loop-block : goal.invariant-loop-block
invariant-loop-block l = PushedTo l.found l.first l.fn.table l.block l.table
