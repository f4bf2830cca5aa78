use Rattle.std.proofs.Common.{◌≡◌, ◌++◌, drop, map}
use Rattle.block_trim.specs.Trimming.{renamed_write}
use Rattle.block_trim.specs.Code.{number_by}
use Rattle.block_trim.proofs.numbers.Numbers.writes.Given as goal

abbrev pub invariant-loop-write : goal.invariant-loop-write
invariant-loop-write l = l.renamed ++ map (renamed_write (number_by l.self)) (drop l.write-index l.writes) ≡ map (renamed_write (number_by l.self)) l.writes
