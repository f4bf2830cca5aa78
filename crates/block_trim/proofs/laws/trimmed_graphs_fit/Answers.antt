use Rattle.block_trim.proofs.Fits.{is_graph}
use Rattle.block_trim.proofs.laws.trimmed_graphs_fit.Goals as goal

pub returns : goal.returns
returns c = λ g fine. is_graph g fine
