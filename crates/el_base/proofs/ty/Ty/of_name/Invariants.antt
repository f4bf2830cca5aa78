use Rattle.std.proofs.Common.{◌≢◌, ℕ, ◌<◌, get_or}
use Rattle.el_base.specs.declared.ty.TheConstants.{TYPES}
use Rattle.el_base.specs.declared.ty.Ty.{Ty}
use Rattle.el_base.specs.Names.{ty_name}
use Rattle.el_base.proofs.ty.Ty.of_name.Given as goal

abbrev pub invariant-loop-ty : goal.invariant-loop-ty
invariant-loop-ty l = (k : ℕ) (d : Ty) → k < l.ty-index → ty_name (get_or TYPES k d) ≢ l.bytes
