use Rattle.std.proofs.Common.{◌≡◌, ℕ, ◌<◌, false, get_or}
use Rattle.c_ast.specs.Numerals.{holds}
use Rattle.el_base.specs.declared.ty.Ty.{Ty}
use Rattle.c_lex.proofs.numeral.first_type.Given as goal

abbrev pub invariant-loop-ty : goal.invariant-loop-ty
invariant-loop-ty l = (k : ℕ) (e : Ty) → k < l.ty-index → holds l.value (get_or l.types k e) ≡ false
