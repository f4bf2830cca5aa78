use Rattle.std.proofs.Common.{◌≡◌, drop}
use Rattle.block_args.specs.Walks.{put_at_all}
use Rattle.block_args.proofs.tables.put_at_all.Given as goal

abbrev pub invariant-loop-number : goal.invariant-loop-number
invariant-loop-number l = put_at_all l.table (drop l.number-index l.numbers) l.block ≡ put_at_all l.fn.table l.numbers l.block
