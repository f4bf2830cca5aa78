use Rattle.c_meaning.proofs.Ends.{ends_one, normal_ends_one}
use Rattle.c_meaning.proofs.laws.ends_are_one.Goals as goal

pub returns : goal.returns
returns c = record { kernels = ends_one; normal_forms = normal_ends_one }
