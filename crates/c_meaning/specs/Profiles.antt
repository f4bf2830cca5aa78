-- What ends under Plain ends in the same way under Wrap, and what Wrap gives where Plain gives nothing.
use Rattle.std.specs.Prelude.{◌≡◌, ℕ, ◌^◌, ◌<◌, List, pos, ℤ, ◌*ℤ◌, neg_ℤ, Option, Some}
use Rattle.el_base.specs.declared.ty.Ty.{Ty}
use Rattle.el_base.specs.Widths.{ty_width}
use Rattle.c_ast.specs.declared.tree.Unary.TheVariants.{Minus}
use Rattle.c_ast.specs.declared.tree.Binary.{Binary}
use Rattle.c_ast.specs.declared.tree.Binary.TheVariants.{Shl}
use Rattle.c_ast.specs.declared.typed.Typed.{Typed}
use Rattle.c_ast.specs.declared.typed.TypedExpr.{TypedExpr}
use Rattle.c_ast.specs.declared.typed.TypedStmt.{TypedStmt}
use Rattle.c_ast.specs.declared.normal.Normal.{Normal}
use Rattle.c_ast.specs.declared.normal.NormalStmt.{NormalStmt}
use Rattle.c_meaning.specs.declared.profile.Profile.{Profile}
use Rattle.c_meaning.specs.declared.profile.Profile.TheVariants.{Plain, Wrap}
use Rattle.c_meaning.specs.Types.{conv}
use Rattle.c_meaning.specs.Operators.{unary_value, binary_value}
use Rattle.c_meaning.specs.Stores.{Store, Objects, Inputs}
use Rattle.c_meaning.specs.Expressions.{val, value}
use Rattle.c_meaning.specs.Runs.{How, normally, by_break, by_continue, by_return, undefined, out_of_turns}
use Rattle.c_meaning.specs.Statements.{does, Ends}
use Rattle.c_meaning.specs.Normals.{normal_does, NormalEnds}

-- it ended before its turns were out, and without anything undefined
abbrev pub IsDefined : How → Type 0
IsDefined normally = Unit {0}
IsDefined by_break = Unit {0}
IsDefined by_continue = Unit {0}
IsDefined (by_return v) = Unit {0}
IsDefined (undefined at) = ⊥
IsDefined out_of_turns = ⊥

-- the same lists under a profile
abbrev pub under : Profile → Objects → Objects
under p k = record k { profile = p }

abbrev pub WrapKeepsValues : Type 0
WrapKeepsValues = (k : Objects) (s : Store) (e : TypedExpr) (z : ℤ) (t : ℕ) → val (under Plain k) s e ≡ value z t → val (under Wrap k) s e ≡ value z t

-- within the same turns, with the same store and as many turns left
abbrev pub WrapKeepsStatements : Type 0
WrapKeepsStatements = (k : Objects) (x : TypedStmt) (s : Store) (n : ℕ) → IsDefined (does (under Plain k) x s n).how → does (under Wrap k) x s n ≡ does (under Plain k) x s n

abbrev pub WrapKeepsNormalStatements : Type 0
WrapKeepsNormalStatements = (k : Objects) (x : NormalStmt) (s : Store) (n : ℕ) → IsDefined (normal_does (under Plain k) x s n).how → normal_does (under Wrap k) x s n ≡ normal_does (under Plain k) x s n

abbrev pub WrapKeepsEnds : Type 0
WrapKeepsEnds = (k : Typed) (i : Inputs) (out : List (List ℤ)) (r : Option ℤ) (t : ℕ) → Ends k Plain i out r t → Ends k Wrap i out r t

abbrev pub WrapKeepsNormalEnds : Type 0
WrapKeepsNormalEnds = (k : Normal) (i : Inputs) (out : List (List ℤ)) (r : Option ℤ) (t : ℕ) → NormalEnds k Plain i out r t → NormalEnds k Wrap i out r t

-- under Wrap each result of + - * << and unary - is the number in range that is congruent to the exact one
abbrev pub WrapsTo : Binary → (ℤ → ℤ → ℤ) → Type 0
WrapsTo op f = (t : Ty) (x y : ℤ) → binary_value Wrap op t x y ≡ Some (conv t (f x y))

abbrev pub NegativesWrap : Type 0
NegativesWrap = (t : Ty) (x : ℤ) → unary_value Wrap Minus t x ≡ Some (conv t (neg_ℤ x))

-- for an amount below the width
abbrev pub ShiftsWrap : Type 0
ShiftsWrap = (t : Ty) (x : ℤ) (k : ℕ) → k < ty_width t → binary_value Wrap Shl t x (pos k) ≡ Some (conv t (x *ℤ pos (2 ^ k)))
