use Rattle.block_merge.proofs.Passes.{merged_keeps}
use Rattle.block_merge.proofs.laws.merged_graphs_keep.Goals as goal

pub returns : goal.returns
returns c = merged_keeps
