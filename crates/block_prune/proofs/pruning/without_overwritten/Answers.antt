use Rattle.std.proofs.Common.{length, ◌∙◌, ap}
use Rattle.block_prune.proofs.Noted.{length_lasting}
use Rattle.block_prune.proofs.pruning.without_overwritten.Goals as goal

pub kept_block-requires-clause-marks : goal.kept_block-requires-clause-marks
kept_block-requires-clause-marks c =
    ap length (c.as_slice-2.ensures.value ∙ c.in_ok-marks.ensures) ∙ length_lasting c.as_slice.result.now ∙ ap length c.as_slice.ensures
