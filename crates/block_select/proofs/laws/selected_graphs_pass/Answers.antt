use Rattle.block_select.proofs.Passing.{selected_passes}
use Rattle.block_select.proofs.laws.selected_graphs_pass.Goals as goal

pub returns : goal.returns
returns c = selected_passes
