use Rattle.block_args.proofs.Whole.{is_graph}
use Rattle.block_args.proofs.laws.served_graphs_are_well_formed.Goals as goal

pub returns : goal.returns
returns c = λ g table fine serves. is_graph g fine table serves
