use Rattle.buffer_place.proofs.NeedLemmas.{registers_needed}
use Rattle.buffer_place.proofs.laws.registers_are_needed.Goals as goal

pub returns : goal.returns
returns c = registers_needed
