-- What a typed tree and a normal form keep: names in their lists, numbers in range, and the types that the rules of types and conversions give (ISO/IEC 9899:1999 6.3.1.8, 6.5, 6.8).
use Rattle.std.specs.Prelude.{◌≡◌, ℕ, ◌+◌, ◌<◌, ◌≤◌, ◌⊎◌, List, [], ◌∷◌, ◌++◌, map, length, take, slice_get, sum_by, All, Contains, pos, Bool, true, false, IsTrue, Option, Some, None}
use mathlib.Core.Former.{Count}
use Rattle.el_base.specs.declared.ty.Ty.{Ty}
use Rattle.el_base.specs.Limits.{max_dimensions, max_elements}
use Rattle.el_base.specs.Numbers.{IsInRange}
use Rattle.c_ast.specs.declared.tree.Binary.{Binary as BinaryOp}
use Rattle.c_ast.specs.declared.tree.Family.{Family}
use Rattle.c_ast.specs.declared.tree.Family.TheVariants.{Arithmetic, Shift, Bits, Comparison, Logical}
use Rattle.c_ast.specs.declared.tree.Param.{Param}
use Rattle.c_ast.specs.declared.typed.ArrayOf.{ArrayOf}
use Rattle.c_ast.specs.declared.typed.Object.{Object}
use Rattle.c_ast.specs.declared.typed.Object.TheVariants as object
use Rattle.c_ast.specs.declared.typed.TypedTarget.{TypedTarget}
use Rattle.c_ast.specs.declared.typed.TypedExpr.{TypedExpr}
use Rattle.c_ast.specs.declared.typed.TypedExprKind.{TypedExprKind, Row_of-TypedExpr, end_of-TypedExpr, more_of-TypedExpr}
use Rattle.c_ast.specs.declared.typed.TypedExprKind as tree
use Rattle.c_ast.specs.declared.typed.Typed.{Typed}
use Rattle.c_ast.specs.declared.typed.TypedStmtKind.{TypedStmtKind, Row_of-TypedStmt, end_of-TypedStmt, more_of-TypedStmt, Held-TypedStmtKind-If-2}
use Rattle.c_ast.specs.declared.typed.TypedStmtKind as act
use Rattle.c_ast.specs.declared.typed.TypedStmt.{TypedStmt}
use Rattle.c_ast.specs.declared.normal.Normal.{Normal}
use Rattle.c_ast.specs.declared.normal.NormalStmt.{NormalStmt}
use Rattle.c_ast.specs.declared.normal.NormalStmtKind.{NormalStmtKind, Row_of-NormalStmt, end_of-NormalStmt, more_of-NormalStmt, Held-NormalStmtKind-If-3}
use Rattle.c_ast.specs.declared.normal.NormalStmtKind as step
use Rattle.c_ast.specs.ResultTypes.{family, promoted, usual, joint_type, result_type, unary_type}
use Rattle.c_meaning.specs.declared.profile.Profile.{Profile}
use Rattle.c_meaning.specs.Quiet.{Quiet}
use Rattle.c_meaning.specs.Stores.{Objects, elements, scalar_types}
use Rattle.c_meaning.specs.Statements.{objects}
use Rattle.c_meaning.specs.Normals.{normal_objects}
use Rattle.c_ast.specs.Casts.{parameters, left_type, right_type, assigned_type}

-- ---- expressions

-- an array of the list, with the type of its elements, and so many indices as dimensions
abbrev pub IsElement : Objects → ℕ → ℕ → Ty → Type 0
IsElement k a indices t = (x : ArrayOf) × (slice_get k.arrays a ≡ Some x) × (x.ty ≡ t) × (length x.dims ≡ indices)

abbrev pub IsVar : Objects → ℕ → Ty → Type 0
IsVar k v t = slice_get k.vars v ≡ Some t

-- operands have the types that an operator asks, and the result has the type that it gives
abbrev pub AreOperands : BinaryOp → Ty → Ty → Ty → Type 0
AreOperands op a b t = (a ≡ left_type op a b) × (b ≡ right_type op a b) × (t ≡ result_type op (joint_type op a b))

abbrev pub AreSides : Ty → Ty → Ty → Type 0
AreSides a b t = (a ≡ usual a b) × (b ≡ usual a b) × (t ≡ usual a b)

-- how many expressions a row holds
abbrev pub row_length : {n : Count} → Row_of-TypedExpr n → ℕ
row_length end_of-TypedExpr = 0
row_length (more_of-TypedExpr e u at row) = 1 + row_length row

-- a cast that is marked as implied
abbrev pub is_implied : TypedExprKind → Bool
is_implied (tree.Number n) = false
is_implied (tree.Var v) = false
is_implied (tree.Element' a n row) = false
is_implied (tree.Unary' op b row) = false
is_implied (tree.Cast' implied b row) = implied
is_implied (tree.Binary' op b row b2 row2) = false
is_implied (tree.Choose' b row b2 row2 b3 row3) = false

abbrev mutual
  -- an expression of a kind, of a type; the argument of an implied cast is no implied cast
  pub LawfulKind : Objects → TypedExprKind → Ty → Type 0
  LawfulKind k (tree.Number n) t = IsInRange t (pos n)
  LawfulKind k (tree.Var v) t = IsVar k v t
  LawfulKind k (tree.Element' a n row) t = IsElement k a (row_length row) t × LawfulRow k row
  LawfulKind k (tree.Unary' op b (more_of-TypedExpr e u at end_of-TypedExpr)) t = (u ≡ promoted u) × (t ≡ unary_type op u) × LawfulKind k e u
  LawfulKind k (tree.Cast' implied b (more_of-TypedExpr e u at end_of-TypedExpr)) t = (implied ≡ true → is_implied e ≡ false) × LawfulKind k e u
  LawfulKind k (tree.Binary' op b (more_of-TypedExpr e u at end_of-TypedExpr) b2 (more_of-TypedExpr e2 u2 at2 end_of-TypedExpr)) t =
      AreOperands op u u2 t × LawfulKind k e u × LawfulKind k e2 u2
  LawfulKind k (tree.Choose' b (more_of-TypedExpr e u at end_of-TypedExpr) b2 (more_of-TypedExpr e2 u2 at2 end_of-TypedExpr) b3 (more_of-TypedExpr e3 u3 at3 end_of-TypedExpr)) t =
      AreSides u2 u3 t × LawfulKind k e u × LawfulKind k e2 u2 × LawfulKind k e3 u3

  pub LawfulRow : Objects → {n : Count} → Row_of-TypedExpr n → Type 0
  LawfulRow k end_of-TypedExpr = Unit {0}
  LawfulRow k (more_of-TypedExpr e u at row) = LawfulKind k e u × LawfulRow k row

abbrev pub LawfulExpr : Objects → TypedExpr → Type 0
LawfulExpr k e = LawfulKind k e.kind e.ty

-- ---- statements

-- an object of a type: a variable has no index, and an element one for each dimension
abbrev pub IsObject : Objects → Object → ℕ → Ty → Type 0
IsObject k (object.Var v) indices t = IsVar k v t × (indices ≡ 0)
IsObject k (object.Array a) indices t = IsElement k a indices t

-- The parts of a statement. Each expression of it keeps E: it is lawful, and in a normal form it also reads arrays only where it is allowed.
abbrev pub LawfulTarget : Objects → (TypedExpr → Type 0) → TypedTarget → Ty → Type 0
LawfulTarget k E target t = IsObject k target.to (length target.indices) t × All E target.indices

abbrev pub LawfulAssignment : Objects → (TypedExpr → Type 0) → TypedTarget → Option BinaryOp → TypedExpr → Type 0
LawfulAssignment k E target op e = (t : Ty) × LawfulTarget k E target t × (e.ty ≡ assigned_type op t e.ty) × E e

abbrev pub LawfulStep : Objects → (TypedExpr → Type 0) → TypedTarget → Type 0
LawfulStep k E target = (t : Ty) × LawfulTarget k E target t

abbrev pub LawfulDeclaration : Objects → (TypedExpr → Type 0) → ℕ → Option TypedExpr → Type 0
LawfulDeclaration k E v None = (t : Ty) × IsVar k v t
LawfulDeclaration k E v (Some e) = IsVar k v e.ty × E e

abbrev pub LawfulOption : (TypedExpr → Type 0) → Option TypedExpr → Type 0
LawfulOption E None = Unit {0}
LawfulOption E (Some e) = E e

-- a value is returned exactly where there is a result, in its type
abbrev pub LawfulReturn : (TypedExpr → Type 0) → Option Ty → Option TypedExpr → Type 0
LawfulReturn E None None = Unit {0}
LawfulReturn E (Some t) (Some e) = (e.ty ≡ t) × E e
LawfulReturn E None (Some e) = ⊥
LawfulReturn E (Some t) None = ⊥

-- the variable that is assigned to, if it is one
abbrev pub object_vars : Object → List ℕ
object_vars (object.Var v) = v ∷ []
object_vars (object.Array a) = []

abbrev mutual
  -- a statement of a kernel with a result: in a loop or not
  pub LawfulStmt : Objects → Option Ty → Bool → TypedStmtKind → Type 0
  LawfulStmt k r loop (act.Block' n row) = LawfulStmts k r loop row
  LawfulStmt k r loop (act.Declare v init) = LawfulDeclaration k (LawfulExpr k) v init
  LawfulStmt k r loop (act.Assign target op e) = LawfulAssignment k (LawfulExpr k) target op e
  LawfulStmt k r loop (act.Step target up) = LawfulStep k (LawfulExpr k) target
  LawfulStmt k r loop (act.If' cond b (more_of-TypedStmt s at end_of-TypedStmt) o) = LawfulExpr k cond × LawfulStmt k r loop s × LawfulStmtHeld k r loop o
  LawfulStmt k r loop (act.While' cond b (more_of-TypedStmt s at end_of-TypedStmt)) = LawfulExpr k cond × LawfulStmt k r true s
  LawfulStmt k r loop (act.DoWhile' b (more_of-TypedStmt s at end_of-TypedStmt) cond) = LawfulStmt k r true s × LawfulExpr k cond
  LawfulStmt k r loop (act.For' n first cond o b (more_of-TypedStmt s at end_of-TypedStmt)) = LawfulStmts k r false first × LawfulOption (LawfulExpr k) cond × LawfulStmtHeld k r false o × LawfulStmt k r true s
  LawfulStmt k r loop act.Break = IsTrue loop
  LawfulStmt k r loop act.Continue = IsTrue loop
  LawfulStmt k r loop (act.Return e) = LawfulReturn (LawfulExpr k) r e
  LawfulStmt k r loop act.Empty = Unit {0}

  pub LawfulStmtHeld : Objects → Option Ty → Bool → Held-TypedStmtKind-If-2 → Type 0
  LawfulStmtHeld k r loop act.None' = Unit {0}
  LawfulStmtHeld k r loop (act.Some' b (more_of-TypedStmt s at end_of-TypedStmt)) = LawfulStmt k r loop s

  pub LawfulStmts : Objects → Option Ty → Bool → {n : Count} → Row_of-TypedStmt n → Type 0
  LawfulStmts k r loop end_of-TypedStmt = Unit {0}
  LawfulStmts k r loop (more_of-TypedStmt s at row) = LawfulStmt k r loop s × LawfulStmts k r loop row

-- the variables that it declares or assigns
abbrev mutual
  pub stmt_vars_of : TypedStmtKind → List ℕ
  stmt_vars_of (act.Block' n row) = stmt_vars_row row
  stmt_vars_of (act.Declare v init) = v ∷ []
  stmt_vars_of (act.Assign target op e) = object_vars target.to
  stmt_vars_of (act.Step target up) = object_vars target.to
  stmt_vars_of (act.If' cond b (more_of-TypedStmt s at end_of-TypedStmt) o) = stmt_vars_of s ++ stmt_vars_held o
  stmt_vars_of (act.While' cond b (more_of-TypedStmt s at end_of-TypedStmt)) = stmt_vars_of s
  stmt_vars_of (act.DoWhile' b (more_of-TypedStmt s at end_of-TypedStmt) cond) = stmt_vars_of s
  stmt_vars_of (act.For' n first cond o b (more_of-TypedStmt s at end_of-TypedStmt)) = stmt_vars_row first ++ stmt_vars_held o ++ stmt_vars_of s
  stmt_vars_of act.Break = []
  stmt_vars_of act.Continue = []
  stmt_vars_of (act.Return e) = []
  stmt_vars_of act.Empty = []

  pub stmt_vars_held : Held-TypedStmtKind-If-2 → List ℕ
  stmt_vars_held act.None' = []
  stmt_vars_held (act.Some' b (more_of-TypedStmt s at end_of-TypedStmt)) = stmt_vars_of s

  pub stmt_vars_row : {n : Count} → Row_of-TypedStmt n → List ℕ
  stmt_vars_row end_of-TypedStmt = []
  stmt_vars_row (more_of-TypedStmt s at row) = stmt_vars_of s ++ stmt_vars_row row

-- ---- normal forms: what stands before the condition of a loop has no loop around it

abbrev mutual
  -- it reads no array
  pub ReadsNone : TypedExprKind → Type 0
  ReadsNone (tree.Number n) = Unit {0}
  ReadsNone (tree.Var v) = Unit {0}
  ReadsNone (tree.Element' a n row) = ⊥
  ReadsNone (tree.Unary' op b (more_of-TypedExpr e u at end_of-TypedExpr)) = ReadsNone e
  ReadsNone (tree.Cast' implied b (more_of-TypedExpr e u at end_of-TypedExpr)) = ReadsNone e
  ReadsNone (tree.Binary' op b (more_of-TypedExpr e u at end_of-TypedExpr) b2 (more_of-TypedExpr e2 u2 at2 end_of-TypedExpr)) = ReadsNone e × ReadsNone e2
  ReadsNone (tree.Choose' b (more_of-TypedExpr e u at end_of-TypedExpr) b2 (more_of-TypedExpr e2 u2 at2 end_of-TypedExpr) b3 (more_of-TypedExpr e3 u3 at3 end_of-TypedExpr)) =
      ReadsNone e × ReadsNone e2 × ReadsNone e3

abbrev pub is_logical : Family → Bool
is_logical Arithmetic = false
is_logical Shift = false
is_logical Bits = false
is_logical Comparison = false
is_logical Logical = true

abbrev pub both_or_either : BinaryOp → Bool
both_or_either op = is_logical (family op)

-- a side of && or || reads no array
abbrev pub SidesReadNone : Bool → TypedExprKind → TypedExprKind → Type 0
SidesReadNone true e e2 = ReadsNone e × ReadsNone e2
SidesReadNone false e e2 = Unit {0}

abbrev mutual
  -- no side of its && and || and ?: reads an array; the first part of ?: is no side
  pub ReadsOutside : TypedExprKind → Type 0
  ReadsOutside (tree.Number n) = Unit {0}
  ReadsOutside (tree.Var v) = Unit {0}
  ReadsOutside (tree.Element' a n row) = RowReadsOutside row
  ReadsOutside (tree.Unary' op b (more_of-TypedExpr e u at end_of-TypedExpr)) = ReadsOutside e
  ReadsOutside (tree.Cast' implied b (more_of-TypedExpr e u at end_of-TypedExpr)) = ReadsOutside e
  ReadsOutside (tree.Binary' op b (more_of-TypedExpr e u at end_of-TypedExpr) b2 (more_of-TypedExpr e2 u2 at2 end_of-TypedExpr)) =
      SidesReadNone (both_or_either op) e e2 × ReadsOutside e × ReadsOutside e2
  ReadsOutside (tree.Choose' b (more_of-TypedExpr e u at end_of-TypedExpr) b2 (more_of-TypedExpr e2 u2 at2 end_of-TypedExpr) b3 (more_of-TypedExpr e3 u3 at3 end_of-TypedExpr)) =
      ReadsOutside e × ReadsNone e2 × ReadsNone e3

  pub RowReadsOutside : {n : Count} → Row_of-TypedExpr n → Type 0
  RowReadsOutside end_of-TypedExpr = Unit {0}
  RowReadsOutside (more_of-TypedExpr e u at row) = ReadsOutside e × RowReadsOutside row

abbrev pub LawfulNormalExpr : Objects → TypedExpr → Type 0
LawfulNormalExpr k e = LawfulExpr k e × ReadsOutside e.kind

-- nothing stands before a condition that is absent
abbrev pub IsEmptyRow : {n : Count} → Row_of-NormalStmt n → Type 0
IsEmptyRow end_of-NormalStmt = Unit {0}
IsEmptyRow (more_of-NormalStmt s at row) = ⊥

abbrev pub NothingBefore : Option TypedExpr → {n : Count} → Row_of-NormalStmt n → Type 0
NothingBefore None row = IsEmptyRow row
NothingBefore (Some cond) row = Unit {0}

abbrev mutual
  -- a statement of a kernel with a result: in a loop or not
  pub LawfulNormalStmt : Objects → Option Ty → Bool → NormalStmtKind → Type 0
  LawfulNormalStmt k r loop (step.Block' n row) = LawfulNormalStmts k r loop row
  LawfulNormalStmt k r loop (step.Declare v init) = LawfulDeclaration k (LawfulNormalExpr k) v init
  LawfulNormalStmt k r loop (step.Assign target e) = LawfulAssignment k (LawfulNormalExpr k) target None e
  LawfulNormalStmt k r loop (step.If' n before cond b (more_of-NormalStmt s at end_of-NormalStmt) o) = LawfulNormalStmts k r loop before × LawfulNormalExpr k cond × LawfulNormalStmt k r loop s × LawfulNormalStmtHeld k r loop o
  LawfulNormalStmt k r loop (step.While' n before cond b (more_of-NormalStmt s at end_of-NormalStmt)) = LawfulNormalStmts k r false before × LawfulNormalExpr k cond × LawfulNormalStmt k r true s
  LawfulNormalStmt k r loop (step.DoWhile' b (more_of-NormalStmt s at end_of-NormalStmt) n before cond) = LawfulNormalStmt k r true s × LawfulNormalStmts k r false before × LawfulNormalExpr k cond
  LawfulNormalStmt k r loop (step.For' n first m before cond o b (more_of-NormalStmt s at end_of-NormalStmt)) = LawfulNormalStmts k r false first × LawfulNormalStmts k r false before × LawfulOption (LawfulNormalExpr k) cond × NothingBefore cond before × LawfulNormalStmtHeld k r false o × LawfulNormalStmt k r true s
  LawfulNormalStmt k r loop step.Break = IsTrue loop
  LawfulNormalStmt k r loop step.Continue = IsTrue loop
  LawfulNormalStmt k r loop (step.Return e) = LawfulReturn (LawfulNormalExpr k) r e
  LawfulNormalStmt k r loop step.Empty = Unit {0}

  pub LawfulNormalStmtHeld : Objects → Option Ty → Bool → Held-NormalStmtKind-If-3 → Type 0
  LawfulNormalStmtHeld k r loop step.None' = Unit {0}
  LawfulNormalStmtHeld k r loop (step.Some' b (more_of-NormalStmt s at end_of-NormalStmt)) = LawfulNormalStmt k r loop s

  pub LawfulNormalStmts : Objects → Option Ty → Bool → {n : Count} → Row_of-NormalStmt n → Type 0
  LawfulNormalStmts k r loop end_of-NormalStmt = Unit {0}
  LawfulNormalStmts k r loop (more_of-NormalStmt s at row) = LawfulNormalStmt k r loop s × LawfulNormalStmts k r loop row

-- the variables that it declares or assigns
abbrev mutual
  pub normal_vars_of : NormalStmtKind → List ℕ
  normal_vars_of (step.Block' n row) = normal_vars_row row
  normal_vars_of (step.Declare v init) = v ∷ []
  normal_vars_of (step.Assign target e) = object_vars target.to
  normal_vars_of (step.If' n before cond b (more_of-NormalStmt s at end_of-NormalStmt) o) = normal_vars_row before ++ normal_vars_of s ++ normal_vars_held o
  normal_vars_of (step.While' n before cond b (more_of-NormalStmt s at end_of-NormalStmt)) = normal_vars_row before ++ normal_vars_of s
  normal_vars_of (step.DoWhile' b (more_of-NormalStmt s at end_of-NormalStmt) n before cond) = normal_vars_of s ++ normal_vars_row before
  normal_vars_of (step.For' n first m before cond o b (more_of-NormalStmt s at end_of-NormalStmt)) = normal_vars_row first ++ normal_vars_row before ++ normal_vars_held o ++ normal_vars_of s
  normal_vars_of step.Break = []
  normal_vars_of step.Continue = []
  normal_vars_of (step.Return e) = []
  normal_vars_of step.Empty = []

  pub normal_vars_held : Held-NormalStmtKind-If-3 → List ℕ
  normal_vars_held step.None' = []
  normal_vars_held (step.Some' b (more_of-NormalStmt s at end_of-NormalStmt)) = normal_vars_of s

  pub normal_vars_row : {n : Count} → Row_of-NormalStmt n → List ℕ
  normal_vars_row end_of-NormalStmt = []
  normal_vars_row (more_of-NormalStmt s at row) = normal_vars_of s ++ normal_vars_row row

-- ---- kernels

-- no two are equal
abbrev pub AreDistinct : List (List ℕ) → Type 0
AreDistinct [] = Unit {0}
AreDistinct (x ∷ xs) = ¬ (Contains xs x) × AreDistinct xs

-- at most as many dimensions as an array may have, none of them 0
abbrev pub AreDimensions : List ℕ → Type 0
AreDimensions ds = (length ds ≤ max_dimensions) × All (λ d. 0 < d) ds

-- a header: parameters of distinct names, their variables first, their arrays, and dimensions within the bounds
pub record LawfulHeader (params : List Param) (k : Objects) : Type 0 where
  pub distinct : AreDistinct (map (λ p. p.name) params)
  pub dimensions : All (λ p. AreDimensions p.dims) params
  pub few_elements : sum_by (λ a. elements a.dims) k.arrays ≤ max_elements
  pub first_vars : take (length (scalar_types params)) k.vars ≡ scalar_types params
  pub arrays_are : k.arrays ≡ (parameters params).arrays

-- each variable of the list is a parameter, or is declared or assigned
abbrev pub AreUsed : List Param → List Ty → List ℕ → Type 0
AreUsed params vars used = (v : ℕ) → v < length vars → (v < length (scalar_types params)) ⊎ Contains used v

abbrev pub all_vars : List TypedStmt → List ℕ
all_vars [] = []
all_vars (s ∷ ss) = stmt_vars_of s.kind ++ all_vars ss

abbrev pub all_normal_vars : List NormalStmt → List ℕ
all_normal_vars [] = []
all_normal_vars (s ∷ ss) = normal_vars_of s.kind ++ all_normal_vars ss

-- a typed tree is lawful: whatever the profile, of which nothing here depends
pub record Lawful (k : Typed) : Type 0 where
  pub header : (p : Profile) → LawfulHeader k.params (objects p k)
  pub used : AreUsed k.params k.vars (all_vars k.body)
  pub statements : (p : Profile) → All (λ s. LawfulStmt (objects p k) k.result false s.kind) k.body

-- a normal form is lawful; nothing returns in what stands before the condition of a loop
pub record LawfulNormal (k : Normal) : Type 0 where
  pub header : (p : Profile) → LawfulHeader k.params (normal_objects p k)
  pub used : AreUsed k.params k.vars (all_normal_vars k.body)
  pub statements : (p : Profile) → All (λ s. LawfulNormalStmt (normal_objects p k) k.result false s.kind) k.body
  pub quiet : All (λ s. Quiet true s.kind) k.body
