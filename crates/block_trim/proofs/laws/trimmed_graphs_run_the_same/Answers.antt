use Rattle.block_trim.proofs.Runs.{share}
use Rattle.block_trim.proofs.laws.trimmed_graphs_run_the_same.Goals as goal

pub returns : goal.returns
returns c = λ g fine. share g fine
