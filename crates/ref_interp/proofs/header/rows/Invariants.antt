use Rattle.std.proofs.Common.{◌≡◌, map, take}
use Rattle.c_meaning.specs.Headers.{flat}
use Rattle.ref_interp.proofs.header.rows.Given as goal

abbrev pub invariant-loop-array : goal.invariant-loop-array
invariant-loop-array l = l.rows ≡ map flat (take l.array-index l.arrays)
