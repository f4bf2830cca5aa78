use Rattle.std.proofs.Common.{◌≡◌, length}
use Rattle.net_core.specs.private.Openings.{AreHomes}
use Rattle.net_core.proofs.opening.homes.Given as goal

abbrev pub invariant-loop-array : goal.invariant-loop-array
invariant-loop-array l = record { len : length l.homes.items ≡ l.array-index; all : AreHomes l.owners l.arrays l.homes.items }
