use Rattle.std.proofs.Common.{◌≡◌, ◌++◌, drop}
use Rattle.block_trim.specs.Code.{kept_by}
use Rattle.block_trim.proofs.writes.keep.Given as goal

abbrev pub invariant-loop-place : goal.invariant-loop-place
invariant-loop-place l = l.kept ++ kept_by l.reads l.places l.place (drop l.place l.writes) ≡ kept_by l.reads l.places 0 l.writes
