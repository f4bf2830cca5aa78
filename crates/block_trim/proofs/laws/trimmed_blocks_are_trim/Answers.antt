use Rattle.block_trim.proofs.Exact.{blocks_trim}
use Rattle.block_trim.proofs.laws.trimmed_blocks_are_trim.Goals as goal

pub returns : goal.returns
returns c = blocks_trim
