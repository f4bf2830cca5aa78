use Rattle.std.proofs.Common.{◌-◌}
use Rattle.block_select.proofs.Lights.{AreSelecting}
use Rattle.block_select.proofs.selecting.selected_blocks.Given as goal

abbrev pub invariant-loop-at : goal.invariant-loop-at
invariant-loop-at l = AreSelecting l.most l.fn.blocks l.at (l.count - l.at) l.blocks
