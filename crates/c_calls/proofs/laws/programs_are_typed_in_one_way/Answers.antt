use Rattle.c_calls.proofs.CastExists.{typed_exists}
use Rattle.c_calls.proofs.CastOnce.{typed_is_one}
use Rattle.c_calls.proofs.laws.programs_are_typed_in_one_way.Goals as goal

pub returns : goal.returns
returns c = record { at_least_one = typed_exists; at_most_one = typed_is_one }
