use Rattle.std.proofs.Common.{◌≡◌, ◌++◌, drop, map}
use Rattle.block_prune.specs.Code.{number_by}
use Rattle.block_prune.proofs.keeping.Numbers.values.Given as goal

abbrev pub invariant-loop-value : goal.invariant-loop-value
invariant-loop-value l = l.all ++ map (number_by l.self) (drop l.value-index l.values) ≡ map (number_by l.self) l.values
