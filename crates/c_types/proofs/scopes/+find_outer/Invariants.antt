use Rattle.std.proofs.Common.{length}
use Rattle.c_types.proofs.scopes.+find_outer.Given as goal

abbrev pub decreases-find_outer : goal.decreases-find_outer
decreases-find_outer g l = length l.outer.now
