use Rattle.block_prune.proofs.Noted.{LastFrom}
use Rattle.block_prune.proofs.overwritten.lasting_marks.Given as goal

abbrev pub invariant-loop-place : goal.invariant-loop-place
invariant-loop-place l = LastFrom l.steps l.place l.marks.items l.pending.items
