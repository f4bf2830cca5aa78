use Rattle.std.proofs.Common.{◌≡◌, take}
use Rattle.el_base.proofs.ty.copy_scalars.Given as goal

abbrev pub invariant-loop-scalar : goal.invariant-loop-scalar
invariant-loop-scalar l = l.copies ≡ take l.scalar-index l.scalars
