use Rattle.std.proofs.Common.{refl}
use Rattle.block_select.proofs.laws.samples_are_selected.Goals as goal

pub returns : goal.returns
returns c name = record { light = refl; heavy = refl }
