-- Where an operator or a conversion has a value for the numbers of patterns, its operation gives the pattern of the value.
use Rattle.std.specs.Prelude.{◌≡◌, ℕ, ◌^◌, ◌<◌, ℤ, List, length, map, All, Some}
use Rattle.el_base.specs.declared.ty.Ty.{Ty}
use Rattle.el_base.specs.Numbers.{number}
use Rattle.el_base.specs.Widths.{ty_width}
use Rattle.c_ast.specs.declared.tree.Unary.{Unary}
use Rattle.c_ast.specs.declared.tree.Binary.{Binary}
use Rattle.c_ast.specs.ResultTypes.{promoted, result_type, unary_type}
use Rattle.c_ast.specs.declared.typed.TypedExpr.{TypedExpr}
use Rattle.c_ast.specs.declared.typed.TypedExprKind.TheVariants as expr
use Rattle.c_ast.specs.declared.typed.TypedExprKind.TheOpen as part
use Rattle.c_meaning.specs.Equations.{MeansBy}
use Rattle.c_meaning.specs.Expressions.{meaning}
use Rattle.c_meaning.specs.Lawful.{IsElement, LawfulExpr}
use Rattle.c_meaning.specs.PartLaws.{LawfulBy}
use Rattle.c_meaning.specs.declared.profile.Profile.{Profile}
use Rattle.c_meaning.specs.Types.{conv}
use Rattle.c_meaning.specs.Operators.{unary_value, binary_value}
use Rattle.c_meaning.specs.Patterns.{on_patterns, on_pattern, conversion_op, converted_by}
use Rattle.ref_interp.specs.Operators.{IsRightType}

-- p is the pattern of z in a type that holds z
abbrev pub IsPattern : Ty → ℕ → ℤ → Type 0
IsPattern t p z = (number t p ≡ z) × (p < 2 ^ ty_width t)

abbrev pub Joins : Binary → Ty → Ty → ℕ → ℕ → Type 0
Joins op t by x y = (p : Profile) (z : ℤ) → binary_value p op t (number t x) (number by y) ≡ Some z → IsPattern (result_type op t) (on_patterns op t x y) z

abbrev pub MakesOf : Unary → Ty → ℕ → Type 0
MakesOf op t x = (p : Profile) (z : ℤ) → unary_value p op t (number t x) ≡ Some z → IsPattern (unary_type op t) (on_pattern op t x) z

-- what is used of the laws of single operators, of conversions, and of the parts of elements
pub record PatternLaws : Type 0 where
  pub element_means : (a : ℕ) (es : List TypedExpr) → MeansBy (expr.Element a es) (λ k. part.Element a (map (meaning k) es))
  pub element_lawful : (a : ℕ) (es : List TypedExpr) → LawfulBy (expr.Element a es) (λ k t. IsElement k a (length es) t × All (LawfulExpr k) es)
  pub joins : (op : Binary) (t by : Ty) (x y : ℕ) → t ≡ promoted t → IsRightType op t by → x < 2 ^ ty_width t → y < 2 ^ ty_width by → Joins op t by x y
  pub makes : (op : Unary) (t : Ty) (x : ℕ) → t ≡ promoted t → x < 2 ^ ty_width t → MakesOf op t x
  pub converts : (s t : Ty) (x : ℕ) → x < 2 ^ ty_width s → IsPattern t (converted_by (conversion_op s t) x) (conv t (number s x))
