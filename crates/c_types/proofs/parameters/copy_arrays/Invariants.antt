use Rattle.std.proofs.Common.{◌≡◌, take}
use Rattle.c_types.proofs.parameters.copy_arrays.Given as goal

abbrev pub invariant-loop-array : goal.invariant-loop-array
invariant-loop-array l = l.copies ≡ take l.array-index l.arrays
