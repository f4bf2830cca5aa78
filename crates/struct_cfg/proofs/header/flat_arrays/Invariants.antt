use Rattle.std.proofs.Common.{◌≡◌, map, take}
use Rattle.c_meaning.specs.Headers.{flat}
use Rattle.struct_cfg.proofs.header.flat_arrays.Given as goal

abbrev pub invariant-loop-array : goal.invariant-loop-array
invariant-loop-array l = l.flat_arrays ≡ map flat (take l.array-index l.arrays)
