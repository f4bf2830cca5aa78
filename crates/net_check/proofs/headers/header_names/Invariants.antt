use Rattle.std.proofs.Common.{◌≡◌, ◌++◌, take, map}
use Rattle.el_base.specs.declared.ty.Scalar.{Scalar}
use Rattle.el_base.specs.declared.ty.Array.{Array}
use Rattle.net_check.proofs.headers.header_names.Given as goal

abbrev pub invariant-loop-scalar : goal.invariant-loop-scalar
invariant-loop-scalar l = l.names ≡ map (λ (s : Scalar). s.name) (take l.scalar-index l.net.scalars)

abbrev pub invariant-loop-array : goal.invariant-loop-array
invariant-loop-array l = l.names ≡ map (λ (s : Scalar). s.name) l.net.scalars ++ map (λ (a : Array). a.name) (take l.array-index l.net.arrays)
