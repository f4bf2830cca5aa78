use Rattle.block_pass.proofs.Remade.{blocks_pass, one_block_passes}
use Rattle.block_pass.proofs.laws.block_by_block.Goals as goal

pub returns : goal.returns
returns c = record { all = blocks_pass c.values_stay_in_widths.ensures; one = one_block_passes c.values_stay_in_widths.ensures }
