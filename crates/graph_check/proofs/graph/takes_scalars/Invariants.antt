use Rattle.std.proofs.Common.{◌≡◌, map, drop}
use Rattle.el_base.specs.Widths.{ty_width}
use Rattle.el_base.specs.declared.ty.Scalar.{Scalar}
use Rattle.graph_check.specs.Fits.{same_numbers}
use Rattle.graph_check.proofs.graph.takes_scalars.Given as goal

abbrev pub invariant-loop-at : goal.invariant-loop-at
invariant-loop-at l = same_numbers (drop l.at l.args) (map (λ (s : Scalar). ty_width s.ty) (drop l.at l.scalars)) ≡ same_numbers l.args (map (λ (s : Scalar). ty_width s.ty) l.scalars)
