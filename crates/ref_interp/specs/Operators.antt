-- Words of the contracts of single operators on patterns.
use Rattle.std.specs.Prelude.{◌≡◌, Bool, true, not}
use Rattle.el_base.specs.declared.ty.Ty.{Ty}
use Rattle.el_base.specs.Widths.{ty_signed}
use Rattle.c_ast.specs.declared.tree.Binary.{Binary}
use Rattle.c_ast.specs.declared.tree.Family.{Family}
use Rattle.c_ast.specs.declared.tree.Family.TheVariants.{Arithmetic, Shift, Bits, Comparison, Logical}
use Rattle.c_ast.specs.ResultTypes.{promoted, family}
use Rattle.c_meaning.specs.declared.profile.Profile.{Profile}
use Rattle.c_meaning.specs.declared.profile.Profile.TheVariants.{Plain, Wrap}

-- whether a result of any size is a number: reduced where the type is unsigned (6.2.5p9), and under Wrap
abbrev pub is_lenient : Profile → Ty → Bool
is_lenient Plain t = not (ty_signed t)
is_lenient Wrap t = true

-- the right operand has the type of the left one; a shift amount has its own; && and || do not join their sides
abbrev pub IsRightIn : Family → Ty → Ty → Type 0
IsRightIn Arithmetic t by = by ≡ t
IsRightIn Shift t by = by ≡ promoted by
IsRightIn Bits t by = by ≡ t
IsRightIn Comparison t by = by ≡ t
IsRightIn Logical t by = Unit {0}

abbrev pub IsRightType : Binary → Ty → Ty → Type 0
IsRightType op t by = IsRightIn (family op) t by
