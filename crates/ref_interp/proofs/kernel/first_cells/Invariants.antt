use Rattle.std.proofs.Common.{◌≡◌, take, List, length}
use Rattle.el_base.specs.declared.ty.Ty.{Ty}
use Rattle.ref_interp.specs.Kernels.{opened}
use Rattle.ref_interp.proofs.kernel.first_cells.Given as goal

abbrev pub invariant-loop-i : goal.invariant-loop-i
invariant-loop-i l = (ts : List Ty) → length ts ≡ l.count → l.cells ≡ take l.i (opened ts l.scalars)
