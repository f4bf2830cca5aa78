use Rattle.buffer_place.proofs.NeedLemmas.{cycles_have}
use Rattle.buffer_place.proofs.laws.cycles_have_registers.Goals as goal

pub returns : goal.returns
returns c = cycles_have
