use Rattle.std.proofs.Common.{ℕ}
use Rattle.el_base.specs.declared.ty.Scalar.{Scalar}
use Rattle.net_types.specs.Inputs.{IsPatternOf}
use Rattle.net_core.proofs.InputLemmas.{UpTo}
use Rattle.net_core.proofs.inputs.scalars_fit.Given as goal

abbrev pub invariant-loop-at : goal.invariant-loop-at
invariant-loop-at l = UpTo (λ (s : Scalar) (n : ℕ). IsPatternOf s.ty n) l.at l.scalars l.values
