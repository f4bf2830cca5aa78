use Rattle.std.proofs.Common.{refl}
use Rattle.block_args.proofs.Runs.{runs}
use Rattle.block_args.proofs.laws.served_graphs_run_the_same.Goals as goal

pub returns : goal.returns
returns c = λ g table fine serves. record { header = refl; runs = runs g fine table serves }
