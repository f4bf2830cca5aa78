-- What is said of a whole tree, by what is said of its parts: one statement for each kind of expression and statement, over the lists of the tree.
use Rattle.std.specs.Prelude.{◌≡◌, ◌↔◌, ℕ, ◌+◌, List, [], sum_by, Bool, Option, Some, None}
use Rattle.el_base.specs.declared.ty.Ty.{Ty}
use Rattle.c_ast.specs.declared.typed.TypedExpr.{TypedExpr}
use Rattle.c_ast.specs.declared.typed.TypedExprKind.{TypedExprKind}
use Rattle.c_ast.specs.declared.typed.TypedStmt.{TypedStmt}
use Rattle.c_ast.specs.declared.typed.TypedStmtKind.{TypedStmtKind}
use Rattle.c_ast.specs.declared.normal.NormalStmt.{NormalStmt}
use Rattle.c_ast.specs.declared.normal.NormalStmtKind.{NormalStmtKind}
use Rattle.c_ast.specs.declared.normal.NormalStmtKind.TheOpen.{NormalStmtKind-F}
use Rattle.c_meaning.specs.Stores.{Objects}
use Rattle.c_meaning.specs.Counts.{Counted, counts_step, kind_counts, kind_price}
use Rattle.c_meaning.specs.Lawful.{LawfulKind, LawfulStmt, LawfulNormalStmt, ReadsNone, ReadsOutside, stmt_vars_of, normal_vars_of}
use Rattle.c_meaning.specs.Quiet.{Quiet}
use Rattle.c_meaning.specs.Reads.{vars_read}
use Rattle.c_meaning.specs.Sizes.{Sizes, closes, steps, accesses, reads}

-- ---- parts

-- of what may be absent
abbrev pub IfAny : {X : Type 0} → (X → Type 0) → Option X → Type 0
IfAny P None = Unit {0}
IfAny P (Some x) = P x

abbrev pub LawfulAt : Objects → Option Ty → Bool → TypedStmt → Type 0
LawfulAt k r l s = LawfulStmt k r l s.kind

abbrev pub LawfulNormalAt : Objects → Option Ty → Bool → NormalStmt → Type 0
LawfulNormalAt k r l s = LawfulNormalStmt k r l s.kind

abbrev pub QuietAt : Bool → NormalStmt → Type 0
QuietAt m s = Quiet m s.kind

-- nothing stands before a condition that is absent
abbrev pub IsEmptyWithout : Option TypedExpr → List NormalStmt → Type 0
IsEmptyWithout None before = before ≡ []
IsEmptyWithout (Some c) before = Unit {0}

abbrev pub vars_if_any : Option TypedStmt → List ℕ
vars_if_any None = []
vars_if_any (Some s) = stmt_vars_of s.kind

abbrev pub normal_vars_if_any : Option NormalStmt → List ℕ
normal_vars_if_any None = []
normal_vars_if_any (Some s) = normal_vars_of s.kind

abbrev pub sizes : ℕ → ℕ → ℕ → Sizes
sizes b s a = record { blocks = b; steps = s; accesses = a }

abbrev pub blocks_of : List NormalStmt → ℕ
blocks_of ss = sum_by (λ s. closes s.kind) ss

abbrev pub steps_of : List NormalStmt → ℕ
steps_of ss = sum_by (λ s. steps s.kind) ss

abbrev pub accesses_of : List NormalStmt → ℕ
accesses_of ss = sum_by (λ s. accesses s.kind) ss

abbrev pub blocks_if_any : Option NormalStmt → ℕ
blocks_if_any None = 0
blocks_if_any (Some s) = closes s.kind

abbrev pub blocks_of_step : Option NormalStmt → ℕ
blocks_of_step None = 0
blocks_of_step (Some s) = closes s.kind + 1

abbrev pub steps_if_any : Option NormalStmt → ℕ
steps_if_any None = 0
steps_if_any (Some s) = steps s.kind

abbrev pub accesses_if_any : Option NormalStmt → ℕ
accesses_if_any None = 0
accesses_if_any (Some s) = accesses s.kind

-- how many elements an expression reads, and which variables
pub record Reading : Type 0 where
  pub elements : ℕ
  pub vars : List ℕ

abbrev pub reading : ℕ → List ℕ → Reading
reading n vs = record { elements = n; vars = vs }

-- ---- what is said of a kind

abbrev pub LawfulBy : TypedExprKind → (Objects → Ty → Type 0) → Type 0
LawfulBy kind P = (k : Objects) (t : Ty) → LawfulKind k kind t ↔ P k t

-- in a kernel of a result r, in a loop or not
abbrev pub LawfulStmtBy : TypedStmtKind → (Objects → Option Ty → Bool → Type 0) → Type 0
LawfulStmtBy kind P = (k : Objects) (r : Option Ty) (l : Bool) → LawfulStmt k r l kind ↔ P k r l

abbrev pub LawfulNormalBy : NormalStmtKind → (Objects → Option Ty → Bool → Type 0) → Type 0
LawfulNormalBy kind P = (k : Objects) (r : Option Ty) (l : Bool) → LawfulNormalStmt k r l kind ↔ P k r l

abbrev pub ReadsNoneBy : TypedExprKind → Type 0 → Type 0
ReadsNoneBy kind P = ReadsNone kind ↔ P

abbrev pub ReadsOutsideBy : TypedExprKind → Type 0 → Type 0
ReadsOutsideBy kind P = ReadsOutside kind ↔ P

-- where it may return or not
abbrev pub QuietBy : NormalStmtKind → (Bool → Type 0) → Type 0
QuietBy kind P = (m : Bool) → Quiet m kind ↔ P m

abbrev pub VarsBy : TypedStmtKind → List ℕ → Type 0
VarsBy kind vs = stmt_vars_of kind ≡ vs

abbrev pub NormalVarsBy : NormalStmtKind → List ℕ → Type 0
NormalVarsBy kind vs = normal_vars_of kind ≡ vs

abbrev pub PriceBy : TypedExprKind → ℕ → Type 0
PriceBy kind price = kind_price kind ≡ price

abbrev pub CountsBy : NormalStmtKind → (Objects → NormalStmtKind-F Counted Counted) → Type 0
CountsBy kind layer = (k : Objects) → kind_counts k kind ≡ counts_step k (layer k)

abbrev pub SizesBy : NormalStmtKind → Sizes → Type 0
SizesBy kind s = sizes (closes kind) (steps kind) (accesses kind) ≡ s

abbrev pub ReadingBy : TypedExprKind → Reading → Type 0
ReadingBy kind r = reading (reads kind) (vars_read kind) ≡ r
