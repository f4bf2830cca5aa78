use Rattle.block_pass.proofs.Remade.{block_keeps_itself, block_goes_on}
use Rattle.block_pass.proofs.laws.blocks_go_on.Goals as goal

pub returns : goal.returns
returns c = record { itself = block_keeps_itself; on = block_goes_on }
