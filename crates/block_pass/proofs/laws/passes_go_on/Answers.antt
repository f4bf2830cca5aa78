use Rattle.block_pass.proofs.Passing.{keeps_itself, go_on, go_back}
use Rattle.block_pass.proofs.laws.passes_go_on.Goals as goal

pub returns : goal.returns
returns c = record { itself = keeps_itself; on = go_on; back = go_back }
