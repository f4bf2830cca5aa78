use Rattle.std.proofs.Common.{◌≡◌, ◌++◌, drop}
use Rattle.std.specs.List.{filter}
use Rattle.block_fold.specs.Addresses.{stays_known}
use Rattle.block_fold.proofs.known.known_over.Given as goal

abbrev pub invariant-loop-entry : goal.invariant-loop-entry
invariant-loop-entry l =
    l.kept ++ filter (stays_known l.args l.steps l.array l.addr) (drop l.entry-index l.known) ≡ filter (stays_known l.args l.steps l.array l.addr) l.known
