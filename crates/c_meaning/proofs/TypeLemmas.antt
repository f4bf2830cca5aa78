-- Types of operands and results: a promoted type stays as it is, and what is converted to a type has it.
use Rattle.std.proofs.Common.{◌≡◌, refl, sym, ◌∙◌}
use Rattle.std.proofs.lemmas.Bool.{false≢true}
use Rattle.std.specs.Prelude.{Bool, true, false, Option, Some, None, if◌then◌else◌}
use Rattle.el_base.specs.declared.ty.Ty.{Ty}
use Rattle.el_base.specs.declared.ty.Ty.TheVariants.{I8, U8, I16, U16, I32, U32, I64, U64}
use Rattle.c_ast.specs.declared.tree.Binary.{Binary}
use Rattle.c_ast.specs.declared.tree.Family.{Family}
use Rattle.c_ast.specs.declared.tree.Family.TheVariants.{Arithmetic, Shift, Bits, Comparison, Logical}
use Rattle.c_ast.specs.declared.typed.TypedExpr.{TypedExpr}
use Rattle.c_ast.specs.declared.typed.TypedExprKind.TheVariants as typed
use Rattle.c_ast.specs.Casts.{same_type, of_type, converted, left_of_family, left_type, right_of_family, right_type, assigned_type}
use Rattle.c_ast.specs.ResultTypes.{promoted, usual, family, joint_of_family, joint_type, result_of_family, result_type}
use Rattle.c_meaning.specs.Lawful.{AreOperands}

pub promoted_twice : (t : Ty) → promoted (promoted t) ≡ promoted t
promoted_twice I8 = refl
promoted_twice t = refl

-- a type with itself
pub usual_same : (t : Ty) → usual t t ≡ promoted t
usual_same I8 = refl
usual_same t = refl

pub promoted_usual : (a b : Ty) → promoted (usual a b) ≡ usual a b
promoted_usual I8 I8 = refl
promoted_usual U8 I8 = refl
promoted_usual I16 I8 = refl
promoted_usual U16 I8 = refl
promoted_usual I32 I8 = refl
promoted_usual U32 I8 = refl
promoted_usual I64 I8 = refl
promoted_usual U64 I8 = refl
promoted_usual a b = refl

-- operands of their usual type keep it
pub usual_self : (a b : Ty) → usual (usual a b) (usual a b) ≡ usual a b
usual_self a b = usual_same (usual a b) ∙ promoted_usual a b

pub usual_right : (a b : Ty) → usual a (usual a b) ≡ usual a b
usual_right I8 I8 = refl
usual_right U8 I8 = refl
usual_right I16 I8 = refl
usual_right U16 I8 = refl
usual_right I32 I8 = refl
usual_right U32 I8 = refl
usual_right I64 I8 = refl
usual_right U64 I8 = refl
usual_right a b = refl

-- ---- what an operator asks of its operands they have once converted

number_operands : (a b : Ty) → (usual a b ≡ usual (usual a b) (usual a b)) × (usual a b ≡ usual (usual a b) (usual a b)) × (usual a b ≡ usual (usual a b) (usual a b))
number_operands a b = (sym (usual_self a b), sym (usual_self a b), sym (usual_self a b))

truth_operands : (a b t : Ty) → (usual a b ≡ usual (usual a b) (usual a b)) × (usual a b ≡ usual (usual a b) (usual a b)) × (t ≡ t)
truth_operands a b t = (sym (usual_self a b), sym (usual_self a b), refl)

shift_operands : (a b : Ty) → (promoted a ≡ promoted (promoted a)) × (promoted b ≡ promoted (promoted b)) × (promoted a ≡ promoted (promoted a))
shift_operands a b = (sym (promoted_twice a), sym (promoted_twice b), sym (promoted_twice a))

operands_in : (f : Family) (a b : Ty) → (left_of_family f a b ≡ left_of_family f (left_of_family f a b) (right_of_family f a b))
    × (right_of_family f a b ≡ right_of_family f (left_of_family f a b) (right_of_family f a b)) × (result_of_family f (joint_of_family f a b) ≡ result_of_family f (joint_of_family f (left_of_family f a b) (right_of_family f a b)))
operands_in Arithmetic a b = number_operands a b
operands_in Shift a b = shift_operands a b
operands_in Bits a b = number_operands a b
operands_in Comparison a b = truth_operands a b I32
operands_in Logical a b = (refl, refl, refl)

pub operands_are : (o : Binary) (a b : Ty) → AreOperands o (left_type o a b) (right_type o a b) (result_type o (joint_type o a b))
operands_are o a b = operands_in (family o) a b

right_twice : (f : Family) (t u : Ty) → right_of_family f t u ≡ right_of_family f t (right_of_family f t u)
right_twice Arithmetic t u = sym (usual_right t u)
right_twice Shift t u = sym (promoted_twice u)
right_twice Bits t u = sym (usual_right t u)
right_twice Comparison t u = sym (usual_right t u)
right_twice Logical t u = refl

pub assigned_twice : (o : Option Binary) (t u : Ty) → assigned_type o t u ≡ assigned_type o t (assigned_type o t u)
assigned_twice None t u = refl
assigned_twice (Some o) t u = right_twice (family o) t u

-- ---- conversions

pub same_is : (a b : Ty) → same_type a b ≡ true → a ≡ b
same_is I8 I8 h = refl
same_is U8 U8 h = refl
same_is I16 I16 h = refl
same_is U16 U16 h = refl
same_is I32 I32 h = refl
same_is U32 U32 h = refl
same_is I64 I64 h = refl
same_is U64 U64 h = refl
same_is a b h = absurd (false≢true h)

type_if : (t : Ty) (e : TypedExpr) (b : Bool) → same_type t e.ty ≡ b → (if b then e else of_type (typed.Cast true e) t e.at).ty ≡ t
type_if t e true h = sym (same_is t e.ty h)
type_if t e false h = refl

pub converted_type : (t : Ty) (e : TypedExpr) → (converted t e).ty ≡ t
converted_type t e = type_if t e (same_type t e.ty) refl
