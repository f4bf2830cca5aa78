use Rattle.block_trim.proofs.Sizes.{sizes}
use Rattle.block_trim.proofs.laws.trimmed_sizes_are_kept.Goals as goal

pub returns : goal.returns
returns c = sizes
