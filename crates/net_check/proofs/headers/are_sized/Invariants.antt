use Rattle.std.proofs.Common.{◌≡◌, ◌+◌, ◌<◌, take}
use Rattle.std.specs.List.{All, sum_by}
use Rattle.el_base.specs.Limits.{max_elements}
use Rattle.el_base.specs.declared.ty.Array.{Array}
use Rattle.net_check.proofs.headers.are_sized.Given as goal

abbrev pub invariant-loop-array : goal.invariant-loop-array
invariant-loop-array l = All (λ (a : Array). 0 < a.len) (take l.array-index l.arrays) × (l.rest + sum_by (λ (a : Array). a.len) (take l.array-index l.arrays) ≡ max_elements)
