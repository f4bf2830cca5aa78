use Rattle.c_calls.proofs.LawfulHelpers.{inlined_is_lawful}
use Rattle.c_calls.proofs.laws.inlined_is_lawful.Goals as goal

pub returns : goal.returns
returns c = inlined_is_lawful
