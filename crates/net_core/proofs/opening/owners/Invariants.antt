use Rattle.std.proofs.Common.{◌≡◌, length}
use Rattle.net_core.specs.private.Openings.{AreOwners}
use Rattle.net_core.proofs.opening.owners.Given as goal

abbrev pub invariant-loop-at : goal.invariant-loop-at
invariant-loop-at l = record { len : length l.owners.items ≡ l.arrays; all : AreOwners l.units l.at l.owners.items }
