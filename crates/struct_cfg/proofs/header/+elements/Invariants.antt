use Rattle.std.proofs.Common.{length}
use Rattle.struct_cfg.proofs.header.+elements.Given as goal

abbrev pub decreases-elements : goal.decreases-elements
decreases-elements l = length l.dims.now
