use Rattle.block_prune.specs.Dead.{jump_operands}
use Rattle.block_prune.proofs.Noted.{LiveFrom}
use Rattle.block_prune.proofs.live.live_marks.Given as goal

abbrev pub invariant-loop-place : goal.invariant-loop-place
invariant-loop-place l = LiveFrom (jump_operands l.block.jump) l.args l.steps l.place l.marks.items l.needed.items
