use Rattle.kernel_bench.proofs.Counted.{ends}
use Rattle.kernel_bench.proofs.laws.kernel_ends.Goals as goal

pub returns : goal.returns
returns c = ends
