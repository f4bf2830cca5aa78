use Rattle.block_merge.proofs.MergedBack.{merged_runs_back}
use Rattle.block_merge.proofs.laws.merged_runs_go_back.Goals as goal

pub returns : goal.returns
returns c = merged_runs_back
