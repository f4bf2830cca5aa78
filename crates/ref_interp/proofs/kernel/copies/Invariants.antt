use Rattle.std.proofs.Common.{◌≡◌, take}
use Rattle.ref_interp.proofs.kernel.copies.Given as goal

abbrev pub invariant-loop-elements : goal.invariant-loop-elements
invariant-loop-elements l = l.made ≡ take l.elements-index l.arrays
