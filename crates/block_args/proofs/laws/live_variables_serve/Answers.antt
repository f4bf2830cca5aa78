use Rattle.block_args.proofs.Lives.{live_variables_serve}
use Rattle.block_args.proofs.laws.live_variables_serve.Goals as goal

pub returns : goal.returns
returns c = live_variables_serve
