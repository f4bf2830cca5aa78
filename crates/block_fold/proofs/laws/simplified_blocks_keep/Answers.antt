use Rattle.block_fold.proofs.Keeping.{simplified_keeps}
use Rattle.block_fold.proofs.laws.simplified_blocks_keep.Goals as goal

pub returns : goal.returns
returns c = simplified_keeps c.values_stay_in_widths.ensures c.rewritings_are_right.ensures.steps c.rewritings_are_right.ensures.conditions
