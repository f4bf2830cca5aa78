use Rattle.std.proofs.Common.{◌≡◌, map, take}
use Rattle.snapshot.specs.private.Drafts.{zero_elements}
use Rattle.snapshot.proofs.draft.zero_arrays.Given as goal

abbrev pub invariant-loop-array : goal.invariant-loop-array
invariant-loop-array l = l.list ≡ map zero_elements (take l.array-index l.arrays)
