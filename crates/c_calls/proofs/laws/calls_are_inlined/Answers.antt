use Rattle.c_calls.proofs.Theorem.{calls_are_inlined}
use Rattle.c_calls.proofs.laws.calls_are_inlined.Goals as goal

pub returns : goal.returns
returns c = calls_are_inlined
