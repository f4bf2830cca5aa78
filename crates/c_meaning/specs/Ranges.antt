-- Numbers stay in the ranges of their types: in stores, values and results.
use Rattle.std.specs.Prelude.{◌≡◌, ℕ, List, ℤ, Bool, Option, Some, None}
use Rattle.el_base.specs.declared.ty.Ty.{Ty}
use Rattle.el_base.specs.Numbers.{IsInRange}
use Rattle.c_ast.specs.declared.typed.ArrayOf.{ArrayOf}
use Rattle.c_ast.specs.declared.typed.Typed.{Typed}
use Rattle.c_ast.specs.declared.typed.TypedExpr.{TypedExpr}
use Rattle.c_ast.specs.declared.typed.TypedStmt.{TypedStmt}
use Rattle.c_ast.specs.declared.normal.Normal.{Normal}
use Rattle.c_ast.specs.declared.normal.NormalStmt.{NormalStmt}
use Rattle.c_meaning.specs.declared.profile.Profile.{Profile}
use Rattle.c_meaning.specs.Stores.{Store, Objects, Inputs, AreFitting, AreArraysOf, IsFitting, opening}
use Rattle.c_meaning.specs.Expressions.{val, value}
use Rattle.c_meaning.specs.Runs.{How, normally, by_break, by_continue, by_return, undefined, out_of_turns, Ended}
use Rattle.c_meaning.specs.Statements.{does, objects, kernel_run, Ends}
use Rattle.c_meaning.specs.Normals.{normal_does, normal_objects, normal_run, NormalEnds}
use Rattle.c_meaning.specs.Lawful.{LawfulExpr, LawfulStmt, LawfulNormalStmt, Lawful, LawfulNormal}

-- a result is there exactly where the kernel has one, and lies in the range of its type
abbrev pub IsResultIn : Option Ty → Option ℤ → Type 0
IsResultIn None None = Unit {0}
IsResultIn (Some t) (Some z) = IsInRange t z
IsResultIn None (Some z) = ⊥
IsResultIn (Some t) None = ⊥

-- where it returns, it returns such a result
abbrev pub ReturnsIn : Option Ty → How → Type 0
ReturnsIn r normally = Unit {0}
ReturnsIn r by_break = Unit {0}
ReturnsIn r by_continue = Unit {0}
ReturnsIn r (by_return v) = IsResultIn r v
ReturnsIn r (undefined at) = Unit {0}
ReturnsIn r out_of_turns = Unit {0}

-- a run ends with a store that fits, and with such a result where it returns
pub record EndsFitting (k : Objects) (r : Option Ty) (e : Ended) : Type 0 where
  pub store : IsFitting k e.store
  pub returns : ReturnsIn r e.how

abbrev pub OpeningFits : Type 0
OpeningFits = (k : Typed) (p : Profile) (i : Inputs) → Lawful k → AreFitting k.params k.arrays i → IsFitting (objects p k) (opening (objects p k) i)

abbrev pub NormalOpeningFits : Type 0
NormalOpeningFits = (k : Normal) (p : Profile) (i : Inputs) → LawfulNormal k → AreFitting k.params k.arrays i → IsFitting (normal_objects p k) (opening (normal_objects p k) i)

abbrev pub ValuesFit : Type 0
ValuesFit = (k : Objects) (s : Store) (e : TypedExpr) (z : ℤ) (t : ℕ) → IsFitting k s → LawfulExpr k e → val k s e ≡ value z t → IsInRange e.ty z

abbrev pub StatementsFit : Type 0
StatementsFit = (k : Objects) (r : Option Ty) (l : Bool) (x : TypedStmt) (s : Store) (n : ℕ) → LawfulStmt k r l x.kind → IsFitting k s → EndsFitting k r (does k x s n)

abbrev pub NormalStatementsFit : Type 0
NormalStatementsFit = (k : Objects) (r : Option Ty) (l : Bool) (x : NormalStmt) (s : Store) (n : ℕ) → LawfulNormalStmt k r l x.kind → IsFitting k s → EndsFitting k r (normal_does k x s n)

abbrev pub KernelsFit : Type 0
KernelsFit = (k : Typed) (p : Profile) (i : Inputs) (n : ℕ) → Lawful k → AreFitting k.params k.arrays i → EndsFitting (objects p k) k.result (kernel_run k p i n)

abbrev pub NormalsFit : Type 0
NormalsFit = (k : Normal) (p : Profile) (i : Inputs) (n : ℕ) → LawfulNormal k → AreFitting k.params k.arrays i → EndsFitting (normal_objects p k) k.result (normal_run k p i n)

-- arrays and result of a kernel that ends
pub record AreResultsIn (arrays : List ArrayOf) (t : Option Ty) (out : List (List ℤ)) (r : Option ℤ) : Type 0 where
  pub each_array : AreArraysOf arrays out
  pub result : IsResultIn t r

abbrev pub ResultsFit : Type 0
ResultsFit = (k : Typed) (p : Profile) (i : Inputs) (out : List (List ℤ)) (r : Option ℤ) (t : ℕ) → Lawful k → AreFitting k.params k.arrays i → Ends k p i out r t → AreResultsIn k.arrays k.result out r

abbrev pub NormalResultsFit : Type 0
NormalResultsFit = (k : Normal) (p : Profile) (i : Inputs) (out : List (List ℤ)) (r : Option ℤ) (t : ℕ) → LawfulNormal k → AreFitting k.params k.arrays i → NormalEnds k p i out r t → AreResultsIn k.arrays k.result out r
