use Rattle.std.proofs.Common.{◌≡◌, ◌<◌, All}
use Rattle.net_split.specs.Owners.{owners_of, owner}
use Rattle.std.proofs.Common.{map}
use Rattle.std.specs.List.{range_with_len}
use Rattle.net_split.proofs.split.Given as goal

abbrev pub invariant-loop-unit : goal.invariant-loop-unit
invariant-loop-unit l = (l.owners ≡ map (owner l.count l.workers) (range_with_len 0 l.unit)) × All (λ o. o < l.workers) l.owners
