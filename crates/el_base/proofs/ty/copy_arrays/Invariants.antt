use Rattle.std.proofs.Common.{◌≡◌, take}
use Rattle.el_base.proofs.ty.copy_arrays.Given as goal

abbrev pub invariant-loop-array : goal.invariant-loop-array
invariant-loop-array l = l.copies ≡ take l.array-index l.arrays
