use Rattle.block_fold.proofs.Keeping.{folded_keeps}
use Rattle.block_fold.proofs.laws.folded_blocks_keep.Goals as goal

pub returns : goal.returns
returns c = folded_keeps c.blocks_go_on.ensures.on c.simplified_blocks_keep.ensures c.pruned_blocks_keep.ensures.both
