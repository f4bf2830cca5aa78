use Rattle.std.proofs.Common.{length}
use Rattle.ref_interp.proofs.header.+elements.Given as goal

abbrev pub decreases-elements : goal.decreases-elements
decreases-elements l = length l.dims.now
