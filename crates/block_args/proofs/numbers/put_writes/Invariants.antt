use Rattle.std.proofs.Common.{◌≡◌, drop}
use Rattle.block_args.specs.Numbers.{number_in, with_writes}
use Rattle.block_args.proofs.numbers.put_writes.Given as goal

abbrev pub invariant-loop-write : goal.invariant-loop-write
invariant-loop-write l = with_writes (number_in l.numbers) l.table.items (drop l.write-index l.writes) ≡ with_writes (number_in l.numbers) l.fn.table.items l.writes
