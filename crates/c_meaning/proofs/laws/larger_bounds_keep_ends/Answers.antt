use Rattle.c_meaning.proofs.Ends.{does_grows, kernel_grows, normal_does_grows, normal_grows}
use Rattle.c_meaning.proofs.laws.larger_bounds_keep_ends.Goals as goal

pub returns : goal.returns
returns c = record { statements = does_grows; kernels = kernel_grows; normal_statements = normal_does_grows; normal_forms = normal_grows }
