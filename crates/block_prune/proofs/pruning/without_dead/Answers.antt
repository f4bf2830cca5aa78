use Rattle.std.proofs.Common.{length, ◌∙◌, ap}
use Rattle.block_prune.specs.Dead.{jump_operands}
use Rattle.block_prune.proofs.Noted.{length_live}
use Rattle.block_prune.proofs.pruning.without_dead.Goals as goal

pub kept_block-requires-clause-marks : goal.kept_block-requires-clause-marks
kept_block-requires-clause-marks c =
    let b = c.args.block.now in
    ap length (c.as_slice.ensures.value ∙ c.in_ok-marks.ensures) ∙ length_live (jump_operands b.jump) (length b.args) b.steps
