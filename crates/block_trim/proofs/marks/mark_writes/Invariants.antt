use Rattle.std.proofs.Common.{◌≡◌, drop, map}
use Rattle.block_trim.specs.Code.{marked}
use Rattle.block_trim.proofs.marks.mark_writes.Given as goal

abbrev pub invariant-loop-write : goal.invariant-loop-write
invariant-loop-write l = marked l.marks (map (λ x. x.value) (drop l.write-index l.writes)) ≡ marked l.fn.marks (map (λ x. x.value) l.writes)
