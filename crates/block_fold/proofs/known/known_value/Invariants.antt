use Rattle.std.proofs.Common.{◌≡◌, drop}
use Rattle.block_fold.specs.Addresses.{known_value}
use Rattle.block_fold.proofs.known.known_value.Given as goal

abbrev pub invariant-loop-entry : goal.invariant-loop-entry
invariant-loop-entry l = known_value (drop l.entry-index l.known) l.array l.addr ≡ known_value l.known l.array l.addr
