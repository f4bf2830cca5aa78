use Rattle.std.proofs.Common.{◌≡◌, ◌++◌, drop, map}
use Rattle.block_merge.specs.Moves.{new_number}
use Rattle.block_merge.proofs.moving.Numbers.values.Given as goal

abbrev pub invariant-loop-value : goal.invariant-loop-value
invariant-loop-value l = l.all ++ map (new_number l.self) (drop l.value-index l.values) ≡ map (new_number l.self) l.values
