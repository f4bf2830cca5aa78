use Rattle.std.proofs.Common.{length}
use Rattle.c_types.proofs.faults.+product.Given as goal

abbrev pub decreases-product : goal.decreases-product
decreases-product l = length l.dims.now
