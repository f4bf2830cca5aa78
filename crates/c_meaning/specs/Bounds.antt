-- Larger bounds on the turns: what is over does not change.
use Rattle.std.specs.Prelude.{◌≡◌, ℕ, ◌+◌, List, ℤ, Option}
use Rattle.c_ast.specs.declared.typed.Typed.{Typed}
use Rattle.c_ast.specs.declared.typed.TypedStmt.{TypedStmt}
use Rattle.c_ast.specs.declared.normal.Normal.{Normal}
use Rattle.c_ast.specs.declared.normal.NormalStmt.{NormalStmt}
use Rattle.c_meaning.specs.declared.profile.Profile.{Profile}
use Rattle.c_meaning.specs.Normals.{normal_does, normal_run, NormalEnds}
use Rattle.c_meaning.specs.Stores.{Store, Objects, Inputs}
use Rattle.c_meaning.specs.Runs.{How, normally, by_break, by_continue, by_return, undefined, out_of_turns, Ended}
use Rattle.c_meaning.specs.Statements.{does, kernel_run, Ends}

-- it ended, in whatever way, before its turns were out
abbrev pub IsOver : How → Type 0
IsOver normally = Unit {0}
IsOver by_break = Unit {0}
IsOver by_continue = Unit {0}
IsOver (by_return v) = Unit {0}
IsOver (undefined at) = Unit {0}
IsOver out_of_turns = ⊥

-- the same end, with m turns more left
abbrev pub with_more : ℕ → Ended → Ended
with_more m e = record { how = e.how; store = e.store; left = e.left + m }

-- What is over within n turns ends in the same way within m more, of which all are left besides.
abbrev pub KeepsEnd : (ℕ → Ended) → Type 0
KeepsEnd run = (n m : ℕ) → IsOver (run n).how → run (n + m) ≡ with_more m (run n)

-- of every statement from every store, and of every kernel on all inputs
abbrev pub StatementsKeepEnds : Type 0
StatementsKeepEnds = (k : Objects) (x : TypedStmt) (s : Store) → KeepsEnd (does k x s)

abbrev pub KernelsKeepEnds : Type 0
KernelsKeepEnds = (k : Typed) (p : Profile) (i : Inputs) → KeepsEnd (kernel_run k p i)

-- the same of normal forms
abbrev pub NormalStatementsKeepEnds : Type 0
NormalStatementsKeepEnds = (k : Objects) (x : NormalStmt) (s : Store) → KeepsEnd (normal_does k x s)

abbrev pub NormalsKeepEnds : Type 0
NormalsKeepEnds = (k : Normal) (p : Profile) (i : Inputs) → KeepsEnd (normal_run k p i)

-- what ends, ends with one list of arrays, one result and one number of turns
abbrev pub IsOne : (List (List ℤ) → Option ℤ → ℕ → Type 0) → Type 0
IsOne E = (out p : List (List ℤ)) (r q : Option ℤ) (t u : ℕ) → E out r t → E p q u → (out ≡ p) × (r ≡ q) × (t ≡ u)

abbrev pub EndsIsOne : Type 0
EndsIsOne = (k : Typed) (p : Profile) (i : Inputs) → IsOne (Ends k p i)

abbrev pub NormalEndsIsOne : Type 0
NormalEndsIsOne = (k : Normal) (p : Profile) (i : Inputs) → IsOne (NormalEnds k p i)
