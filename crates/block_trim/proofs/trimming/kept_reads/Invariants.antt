use Rattle.std.proofs.Common.{◌≡◌, ◌++◌, drop}
use Rattle.block_trim.specs.Code.{reads_by}
use Rattle.block_trim.proofs.trimming.kept_reads.Given as goal

abbrev pub invariant-loop-place : goal.invariant-loop-place
invariant-loop-place l = l.kept ++ reads_by (drop l.place l.marks) (drop l.place l.reads) ≡ reads_by l.marks l.reads
