-- What a typed program keeps: what typed trees keep, and of each call that it names an earlier helper, with one argument of its type for each parameter, and stands where it is always evaluated, once.
-- And that each variable is read and assigned only in the block that declares it, behind its declarator, which no list of numbers tells.
use Rattle.std.specs.Prelude.{◌≡◌, ℕ, zero, suc, ◌+◌, List, [], ◌∷◌, ◌++◌, map, length, take, slice_get, All, Contains, pos, Bool, true, false, IsTrue, Option, Some, None}
use mathlib.Core.Former.{Count}
use Rattle.el_base.specs.declared.ty.Ty.{Ty}
use Rattle.el_base.specs.Numbers.{IsInRange}
use Rattle.c_ast.specs.declared.tree.Binary.{Binary as BinaryOp}
use Rattle.c_ast.specs.declared.typed.Object.{Object}
use Rattle.c_ast.specs.declared.typed.Object.TheVariants as object
use Rattle.c_ast.specs.ResultTypes.{promoted, unary_type}
use Rattle.c_ast.specs.Casts.{assigned_type}
use Rattle.c_meaning.specs.declared.profile.Profile.{Profile}
use Rattle.c_meaning.specs.Stores.{Objects, scalar_types}
use Rattle.c_meaning.specs.Lawful.{IsElement, IsVar, AreOperands, AreSides, IsObject, both_or_either, LawfulHeader, AreUsed}
use Rattle.c_ast.specs.declared.program.ProgExpr.{ProgExpr}
use Rattle.c_ast.specs.declared.program.ProgExprKind.{ProgExprKind, Row_of-ProgExpr, end_of-ProgExpr, more_of-ProgExpr}
use Rattle.c_ast.specs.declared.program.ProgExprKind as tree
use Rattle.c_ast.specs.declared.program.ProgTarget.{ProgTarget}
use Rattle.c_ast.specs.declared.program.ProgStmt.{ProgStmt}
use Rattle.c_ast.specs.declared.program.ProgStmtKind.{ProgStmtKind, Row_of-ProgStmt, end_of-ProgStmt, more_of-ProgStmt, Held-ProgStmtKind-If-2}
use Rattle.c_ast.specs.declared.program.ProgStmtKind as act
use Rattle.c_ast.specs.declared.program.TypedHelper.{TypedHelper}
use Rattle.c_ast.specs.declared.program.TypedProgram.{TypedProgram}
use Rattle.c_calls.specs.Meanings.{helper_objects, prog_objects}

-- ---- expressions

abbrev pub is_implied : ProgExprKind → Bool
is_implied (tree.Number n) = false
is_implied (tree.Var v) = false
is_implied (tree.Element' a n row) = false
is_implied (tree.Unary' op b row) = false
is_implied (tree.Cast' implied b row) = implied
is_implied (tree.Binary' op b row b2 row2) = false
is_implied (tree.Choose' b row b2 row2 b3 row3) = false
is_implied (tree.Call' h n row) = false

abbrev pub row_length : {n : Count} → Row_of-ProgExpr n → ℕ
row_length end_of-ProgExpr = 0
row_length (more_of-ProgExpr e u at row) = 1 + row_length row

-- a helper as calls see it: the types of its parameters, and of its result
pub record Signature : Type 0 where
  pub params : List Ty
  pub result : Ty

abbrev pub signature_of : TypedHelper → Signature
signature_of h = record { params = map (λ q. q.ty) h.params; result = h.result }

-- a call of a helper of the list, where calls may stand
abbrev pub IsCall : List Signature → Bool → ℕ → List Ty → Ty → Type 0
IsCall hs may h ts t = IsTrue may × ((g : Signature) × (slice_get hs h ≡ Some g) × (ts ≡ g.params) × (t ≡ g.result))

-- whether calls may stand in the right operand: not in that of && and ||, which may be left out
abbrev pub may_where : Bool → Bool → Bool
may_where true x = false
may_where false x = x

abbrev pub may_right : Bool → BinaryOp → Bool
may_right may op = may_where (both_or_either op) may

abbrev pub row_types : {n : Count} → Row_of-ProgExpr n → List Ty
row_types end_of-ProgExpr = []
row_types (more_of-ProgExpr e u at row) = u ∷ row_types row

abbrev mutual
  pub LawfulCallKind : Objects → List Signature → Bool → ProgExprKind → Ty → Type 0
  LawfulCallKind k hs may (tree.Number n) t = IsInRange t (pos n)
  LawfulCallKind k hs may (tree.Var v) t = IsVar k v t
  LawfulCallKind k hs may (tree.Element' a n row) t = IsElement k a (row_length row) t × LawfulCallRow k hs may row
  LawfulCallKind k hs may (tree.Unary' op b (more_of-ProgExpr e u at end_of-ProgExpr)) t = (u ≡ promoted u) × (t ≡ unary_type op u) × LawfulCallKind k hs may e u
  LawfulCallKind k hs may (tree.Cast' implied b (more_of-ProgExpr e u at end_of-ProgExpr)) t = (implied ≡ true → is_implied e ≡ false) × LawfulCallKind k hs may e u
  LawfulCallKind k hs may (tree.Binary' op b (more_of-ProgExpr e u at end_of-ProgExpr) b2 (more_of-ProgExpr e2 u2 at2 end_of-ProgExpr)) t =
      AreOperands op u u2 t × LawfulCallKind k hs may e u × LawfulCallKind k hs (may_right may op) e2 u2
  LawfulCallKind k hs may (tree.Choose' b (more_of-ProgExpr e u at end_of-ProgExpr) b2 (more_of-ProgExpr e2 u2 at2 end_of-ProgExpr) b3 (more_of-ProgExpr e3 u3 at3 end_of-ProgExpr)) t =
      AreSides u2 u3 t × LawfulCallKind k hs may e u × LawfulCallKind k hs false e2 u2 × LawfulCallKind k hs false e3 u3
  LawfulCallKind k hs may (tree.Call' h n row) t = IsCall hs may h (row_types row) t × LawfulCallRow k hs may row

  pub LawfulCallRow : Objects → List Signature → Bool → {n : Count} → Row_of-ProgExpr n → Type 0
  LawfulCallRow k hs may end_of-ProgExpr = Unit {0}
  LawfulCallRow k hs may (more_of-ProgExpr e u at row) = LawfulCallKind k hs may e u × LawfulCallRow k hs may row

abbrev pub LawfulCallExpr : Objects → List Signature → Bool → ProgExpr → Type 0
LawfulCallExpr k hs may e = LawfulCallKind k hs may e.kind e.ty

abbrev pub IfAnyExpr : (ProgExpr → Type 0) → Option ProgExpr → Type 0
IfAnyExpr E None = Unit {0}
IfAnyExpr E (Some e) = E e

abbrev pub LawfulCallTarget : Objects → List Signature → ProgTarget → Ty → Type 0
LawfulCallTarget k hs target t = IsObject k target.to (length target.indices) t × All (LawfulCallExpr k hs true) target.indices

abbrev pub LawfulCallDeclaration : Objects → List Signature → ℕ → Option ProgExpr → Type 0
LawfulCallDeclaration k hs v None = (t : Ty) × IsVar k v t
LawfulCallDeclaration k hs v (Some e) = IsVar k v e.ty × LawfulCallExpr k hs true e

-- where may_return is false, in a helper, nothing returns
abbrev pub LawfulCallReturn : (ProgExpr → Type 0) → Option (Option Ty) → Option ProgExpr → Type 0
LawfulCallReturn E None e = ⊥
LawfulCallReturn E (Some None) None = Unit {0}
LawfulCallReturn E (Some (Some t)) (Some e) = (e.ty ≡ t) × E e
LawfulCallReturn E (Some None) (Some e) = ⊥
LawfulCallReturn E (Some (Some t)) None = ⊥

abbrev mutual
  -- in a kernel of a result, or in a helper: in a loop or not
  pub LawfulCallStmt : Objects → List Signature → Option (Option Ty) → Bool → ProgStmtKind → Type 0
  LawfulCallStmt k hs r loop (act.Block' n row) = LawfulCallStmts k hs r loop row
  LawfulCallStmt k hs r loop (act.Declare v init) = LawfulCallDeclaration k hs v init
  LawfulCallStmt k hs r loop (act.Assign target op e) = (t : Ty) × LawfulCallTarget k hs target t × (e.ty ≡ assigned_type op t e.ty) × LawfulCallExpr k hs true e
  LawfulCallStmt k hs r loop (act.Step target up) = (t : Ty) × LawfulCallTarget k hs target t
  LawfulCallStmt k hs r loop (act.If' cond b (more_of-ProgStmt s at end_of-ProgStmt) o) = LawfulCallExpr k hs true cond × LawfulCallStmt k hs r loop s × LawfulCallHeld k hs r loop o
  LawfulCallStmt k hs r loop (act.While' cond b (more_of-ProgStmt s at end_of-ProgStmt)) = LawfulCallExpr k hs false cond × LawfulCallStmt k hs r true s
  LawfulCallStmt k hs r loop (act.DoWhile' b (more_of-ProgStmt s at end_of-ProgStmt) cond) = LawfulCallStmt k hs r true s × LawfulCallExpr k hs false cond
  LawfulCallStmt k hs r loop (act.For' n first cond o b (more_of-ProgStmt s at end_of-ProgStmt)) =
      LawfulCallStmts k hs r false first × IfAnyExpr (LawfulCallExpr k hs false) cond × LawfulCallHeld k hs r false o × LawfulCallStmt k hs r true s
  LawfulCallStmt k hs r loop act.Break = IsTrue loop
  LawfulCallStmt k hs r loop act.Continue = IsTrue loop
  LawfulCallStmt k hs r loop (act.Return e) = LawfulCallReturn (LawfulCallExpr k hs true) r e
  LawfulCallStmt k hs r loop act.Empty = Unit {0}

  pub LawfulCallHeld : Objects → List Signature → Option (Option Ty) → Bool → Held-ProgStmtKind-If-2 → Type 0
  LawfulCallHeld k hs r loop act.None' = Unit {0}
  LawfulCallHeld k hs r loop (act.Some' b (more_of-ProgStmt s at end_of-ProgStmt)) = LawfulCallStmt k hs r loop s

  pub LawfulCallStmts : Objects → List Signature → Option (Option Ty) → Bool → {n : Count} → Row_of-ProgStmt n → Type 0
  LawfulCallStmts k hs r loop end_of-ProgStmt = Unit {0}
  LawfulCallStmts k hs r loop (more_of-ProgStmt s at row) = LawfulCallStmt k hs r loop s × LawfulCallStmts k hs r loop row

-- ---- scopes: vs are the variables in scope

abbrev mutual
  pub ReadsOf : List ℕ → ProgExprKind → Type 0
  ReadsOf vs (tree.Number n) = Unit {0}
  ReadsOf vs (tree.Var v) = Contains vs v
  ReadsOf vs (tree.Element' a n row) = RowReadsOf vs row
  ReadsOf vs (tree.Unary' op b (more_of-ProgExpr e u at end_of-ProgExpr)) = ReadsOf vs e
  ReadsOf vs (tree.Cast' implied b (more_of-ProgExpr e u at end_of-ProgExpr)) = ReadsOf vs e
  ReadsOf vs (tree.Binary' op b (more_of-ProgExpr e u at end_of-ProgExpr) b2 (more_of-ProgExpr e2 u2 at2 end_of-ProgExpr)) = ReadsOf vs e × ReadsOf vs e2
  ReadsOf vs (tree.Choose' b (more_of-ProgExpr e u at end_of-ProgExpr) b2 (more_of-ProgExpr e2 u2 at2 end_of-ProgExpr) b3 (more_of-ProgExpr e3 u3 at3 end_of-ProgExpr)) =
      ReadsOf vs e × ReadsOf vs e2 × ReadsOf vs e3
  ReadsOf vs (tree.Call' h n row) = RowReadsOf vs row

  pub RowReadsOf : List ℕ → {n : Count} → Row_of-ProgExpr n → Type 0
  RowReadsOf vs end_of-ProgExpr = Unit {0}
  RowReadsOf vs (more_of-ProgExpr e u at row) = ReadsOf vs e × RowReadsOf vs row

abbrev pub ReadsAt : List ℕ → ProgExpr → Type 0
ReadsAt vs e = ReadsOf vs e.kind

abbrev pub IsObjectOf : List ℕ → Object → Type 0
IsObjectOf vs (object.Var v) = Contains vs v
IsObjectOf vs (object.Array a) = Unit {0}

abbrev pub IsTargetOf : List ℕ → ProgTarget → Type 0
IsTargetOf vs target = IsObjectOf vs target.to × All (ReadsAt vs) target.indices

-- the variables in scope behind a statement, and behind several
abbrev pub in_scope_after : List ℕ → ProgStmtKind → List ℕ
in_scope_after vs (act.Declare v init) = v ∷ vs
in_scope_after vs s = vs

abbrev pub in_scope_after_row : {n : Count} → List ℕ → Row_of-ProgStmt n → List ℕ
in_scope_after_row vs end_of-ProgStmt = vs
in_scope_after_row vs (more_of-ProgStmt s at row) = in_scope_after_row (in_scope_after vs s) row

abbrev mutual
  -- a declared variable is in no scope before
  pub IsScoped : ProgStmtKind → List ℕ → Type 0
  IsScoped (act.Block' n row) vs = AreScoped row vs
  IsScoped (act.Declare v init) vs = ¬ (Contains vs v) × IfAnyExpr (ReadsAt (v ∷ vs)) init
  IsScoped (act.Assign target op e) vs = IsTargetOf vs target × ReadsAt vs e
  IsScoped (act.Step target up) vs = IsTargetOf vs target
  IsScoped (act.If' cond b (more_of-ProgStmt s at end_of-ProgStmt) o) vs = ReadsAt vs cond × IsScoped s vs × IsHeldScoped o vs
  IsScoped (act.While' cond b (more_of-ProgStmt s at end_of-ProgStmt)) vs = ReadsAt vs cond × IsScoped s vs
  IsScoped (act.DoWhile' b (more_of-ProgStmt s at end_of-ProgStmt) cond) vs = IsScoped s vs × ReadsAt vs cond
  IsScoped (act.For' n first cond o b (more_of-ProgStmt s at end_of-ProgStmt)) vs =
      AreScoped first vs × IfAnyExpr (ReadsAt (in_scope_after_row vs first)) cond × IsHeldScoped o (in_scope_after_row vs first) × IsScoped s (in_scope_after_row vs first)
  IsScoped act.Break vs = Unit {0}
  IsScoped act.Continue vs = Unit {0}
  IsScoped (act.Return e) vs = IfAnyExpr (ReadsAt vs) e
  IsScoped act.Empty vs = Unit {0}

  pub IsHeldScoped : Held-ProgStmtKind-If-2 → List ℕ → Type 0
  IsHeldScoped act.None' vs = Unit {0}
  IsHeldScoped (act.Some' b (more_of-ProgStmt s at end_of-ProgStmt)) vs = IsScoped s vs

  pub AreScoped : {n : Count} → Row_of-ProgStmt n → List ℕ → Type 0
  AreScoped end_of-ProgStmt vs = Unit {0}
  AreScoped (more_of-ProgStmt s at row) vs = IsScoped s vs × AreScoped row (in_scope_after vs s)

abbrev pub ListScoped : List ProgStmt → List ℕ → Type 0
ListScoped [] vs = Unit {0}
ListScoped (s ∷ ss) vs = IsScoped s.kind vs × ListScoped ss (in_scope_after vs s.kind)

abbrev pub in_scope_after_list : List ℕ → List ProgStmt → List ℕ
in_scope_after_list vs [] = vs
in_scope_after_list vs (s ∷ ss) = in_scope_after_list (in_scope_after vs s.kind) ss

-- the first n numbers from k on
abbrev pub numbers_from : ℕ → ℕ → List ℕ
numbers_from k zero = []
numbers_from k (suc n) = k ∷ numbers_from (suc k) n

-- ---- helpers and programs

-- the variables that it declares or assigns
abbrev pub object_vars : Object → List ℕ
object_vars (object.Var v) = v ∷ []
object_vars (object.Array a) = []

abbrev mutual
  pub prog_vars_of : ProgStmtKind → List ℕ
  prog_vars_of (act.Block' n row) = prog_vars_row row
  prog_vars_of (act.Declare v init) = v ∷ []
  prog_vars_of (act.Assign target op e) = object_vars target.to
  prog_vars_of (act.Step target up) = object_vars target.to
  prog_vars_of (act.If' cond b (more_of-ProgStmt s at end_of-ProgStmt) o) = prog_vars_of s ++ prog_vars_held o
  prog_vars_of (act.While' cond b (more_of-ProgStmt s at end_of-ProgStmt)) = prog_vars_of s
  prog_vars_of (act.DoWhile' b (more_of-ProgStmt s at end_of-ProgStmt) cond) = prog_vars_of s
  prog_vars_of (act.For' n first cond o b (more_of-ProgStmt s at end_of-ProgStmt)) = prog_vars_row first ++ prog_vars_held o ++ prog_vars_of s
  prog_vars_of act.Break = []
  prog_vars_of act.Continue = []
  prog_vars_of (act.Return e) = []
  prog_vars_of act.Empty = []

  pub prog_vars_held : Held-ProgStmtKind-If-2 → List ℕ
  prog_vars_held act.None' = []
  prog_vars_held (act.Some' b (more_of-ProgStmt s at end_of-ProgStmt)) = prog_vars_of s

  pub prog_vars_row : {n : Count} → Row_of-ProgStmt n → List ℕ
  prog_vars_row end_of-ProgStmt = []
  prog_vars_row (more_of-ProgStmt s at row) = prog_vars_of s ++ prog_vars_row row

abbrev pub all_prog_vars : List ProgStmt → List ℕ
all_prog_vars [] = []
all_prog_vars (s ∷ ss) = prog_vars_of s.kind ++ all_prog_vars ss

-- the variables that it declares
abbrev mutual
  pub declared_of : ProgStmtKind → List ℕ
  declared_of (act.Block' n row) = declared_row row
  declared_of (act.Declare v init) = v ∷ []
  declared_of (act.Assign target op e) = []
  declared_of (act.Step target up) = []
  declared_of (act.If' cond b (more_of-ProgStmt s at end_of-ProgStmt) o) = declared_of s ++ declared_held o
  declared_of (act.While' cond b (more_of-ProgStmt s at end_of-ProgStmt)) = declared_of s
  declared_of (act.DoWhile' b (more_of-ProgStmt s at end_of-ProgStmt) cond) = declared_of s
  declared_of (act.For' n first cond o b (more_of-ProgStmt s at end_of-ProgStmt)) = declared_row first ++ declared_held o ++ declared_of s
  declared_of act.Break = []
  declared_of act.Continue = []
  declared_of (act.Return e) = []
  declared_of act.Empty = []

  pub declared_held : Held-ProgStmtKind-If-2 → List ℕ
  declared_held act.None' = []
  declared_held (act.Some' b (more_of-ProgStmt s at end_of-ProgStmt)) = declared_of s

  pub declared_row : {n : Count} → Row_of-ProgStmt n → List ℕ
  declared_row end_of-ProgStmt = []
  declared_row (more_of-ProgStmt s at row) = declared_of s ++ declared_row row

abbrev pub all_declared : List ProgStmt → List ℕ
all_declared [] = []
all_declared (s ∷ ss) = declared_of s.kind ++ all_declared ss

abbrev pub AreOnce : List ℕ → Type 0
AreOnce [] = Unit {0}
AreOnce (v ∷ vs) = ¬ (Contains vs v) × AreOnce vs

-- of n parameters and these statements: each variable is declared in one place, and used in the scope of its declarator alone
pub record InScope (n : ℕ) (body : List ProgStmt) : Type 0 where
  pub once : AreOnce (numbers_from 0 n ++ all_declared body)
  pub scoped : ListScoped body (numbers_from 0 n)

-- a helper behind others of these signatures: its parameters are scalars, and its variables begin with them
pub record LawfulHelper (hs : List Signature) (h : TypedHelper) : Type 0 where
  pub scalars : All (λ q. q.dims ≡ []) h.params
  pub first_vars : take (length h.params) h.vars ≡ map (λ q. q.ty) h.params
  pub used : AreUsed h.params h.vars (all_prog_vars h.body)
  pub statements : (p : Profile) → All (λ s. LawfulCallStmt (helper_objects p h) hs None false s.kind) h.body
  pub result : (p : Profile) → LawfulCallExpr (helper_objects p h) hs true h.value
  pub typed : h.value.ty ≡ h.result
  pub scoped : InScope (length h.params) h.body
  pub reads : ReadsAt (in_scope_after_list (numbers_from 0 (length h.params)) h.body) h.value

abbrev pub LawfulHelpers : List Signature → List TypedHelper → Type 0
LawfulHelpers hs [] = Unit {0}
LawfulHelpers hs (h ∷ rest) = LawfulHelper hs h × LawfulHelpers (hs ++ signature_of h ∷ []) rest

pub record LawfulProgram (P : TypedProgram) : Type 0 where
  pub helpers : LawfulHelpers [] P.helpers
  pub header : (p : Profile) → LawfulHeader P.kernel.params (prog_objects p P.kernel)
  pub used : AreUsed P.kernel.params P.kernel.vars (all_prog_vars P.kernel.body)
  pub statements : (p : Profile) → All (λ s. LawfulCallStmt (prog_objects p P.kernel) (map signature_of P.helpers) (Some P.kernel.result) false s.kind) P.kernel.body
  pub scoped : InScope (length (scalar_types P.kernel.params)) P.kernel.body
