use Rattle.c_calls.proofs.CastPrograms.{typed_is_lawful}
use Rattle.c_calls.proofs.laws.typed_programs_are_lawful.Goals as goal

pub returns : goal.returns
returns c = typed_is_lawful
