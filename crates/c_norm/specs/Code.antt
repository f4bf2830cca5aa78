-- Words that the contracts of private functions cite, and no other.
use Rattle.std.specs.Prelude.{◌≡◌, ℕ, ◌+◌, ◌≤◌, ◌^◌, ◌==◌, List, [], ◌∷◌, ◌++◌, length, Bool, Option, Some, None}
use Rattle.el_base.specs.declared.span.Span.{Span}
use Rattle.el_base.specs.declared.ty.Ty.{Ty}
use Rattle.c_ast.specs.Casts.{of_type}
use Rattle.c_ast.specs.declared.typed.TypedExpr.{TypedExpr}
use Rattle.c_ast.specs.declared.typed.TypedExprKind.TheVariants as expr
use Rattle.c_ast.specs.declared.tree.Binary.{Binary as BinaryOp}
use Rattle.c_ast.specs.declared.typed.Typed.{Typed}
use Rattle.c_ast.specs.declared.typed.TypedStmt.{TypedStmt}
use Rattle.c_ast.specs.declared.typed.TypedStmtKind.{TypedStmtKind}
use Rattle.c_ast.specs.declared.typed.TypedTarget.{TypedTarget}
use Rattle.c_ast.specs.declared.normal.NormalStmt.{NormalStmt}
use Rattle.c_ast.specs.declared.normal.NormalStmtKind.{NormalStmtKind}
use Rattle.c_ast.specs.declared.normal.NormalStmtKind.TheVariants as normal
use Rattle.c_meaning.specs.declared.profile.Profile.TheVariants.{Plain}
use Rattle.c_meaning.specs.Statements.{objects}
use Rattle.c_meaning.specs.Sizes.{reads}
use Rattle.c_norm.specs.Expand.{Out, Outs, setting, side, choice, decided_by, expand_expr, expand_all, set_all, rest_of}
use Rattle.c_norm.specs.Forms.{Made, MadeIfAny, normal_at, made, target_with, compound, block_of, optional, rest_if_any, object_kind, new_value, form_of, all_forms}
use Rattle.c_norm.specs.declared.settings.Choice.{Choice}

-- so many variables more may be numbered
abbrev pub HasRoom : List Ty → ℕ → Type 0
HasRoom vars more = length vars + more ≤ 2 ^ 32

-- An expansion was made: what it sets stands behind the statements that stood there, its variables behind those that were there, and x is what is left, with a type and a place.
pub record IsOut (o : Out) (ty : Ty) (at : Span) (before : List NormalStmt) (vars : List Ty) (before2 : List NormalStmt) (vars2 : List Ty) (x : TypedExpr) : Type 0 where
  pub rest : x ≡ of_type o.kind ty at
  pub set : before2 ≡ before ++ o.before
  pub made : vars2 ≡ vars ++ o.types

-- the same of several expressions
pub record AreOut (o : Outs) (before : List NormalStmt) (vars : List Ty) (before2 : List NormalStmt) (vars2 : List Ty) (xs : List TypedExpr) : Type 0 where
  pub rest : xs ≡ o.exprs
  pub set : before2 ≡ before ++ o.before
  pub made : vars2 ≡ vars ++ o.types

-- an expression was expanded, and it is told whether it reads no array
pub record IsExpanded (e : TypedExpr) (before : List NormalStmt) (vars : List Ty) (before2 : List NormalStmt) (vars2 : List Ty) (x : TypedExpr) (p : Bool) : Type 0 where
  pub out : IsOut (expand_expr (length vars) e) e.ty e.at before vars before2 vars2 x
  pub plain : p ≡ (reads e.kind == 0)

-- an expression is set to a variable of its own, which is left of it
abbrev pub set_out : ℕ → TypedExpr → Out
set_out f e =
    let o = expand_expr f e in
    let v = f + length o.types in
    record { before = o.before ++ setting v (rest_of o e) e.at ∷ []; kind = expr.Var v; types = o.types ++ e.ty ∷ [] }

-- Some of several expressions are done, and left is what the others make: with it the whole is made.
pub record GoesOn (left all : Outs) (before0 : List NormalStmt) (vars0 : List Ty) (before : List NormalStmt) (vars : List Ty) (xs : List TypedExpr) : Type 0 where
  pub rest : xs ++ left.exprs ≡ all.exprs
  pub set : before ++ left.before ≡ before0 ++ all.before
  pub made : vars ++ left.types ≡ vars0 ++ all.types

-- the statement that sets a variable to the value of a side
abbrev pub chosen : Choice → ℕ → NormalStmt
chosen c v = choice v c.cond (side v c.then.before c.then.value c.at) (side v c.other.before c.other.value c.at) c.at

-- ---- statements

abbrev pub stmt_form : Typed → ℕ → TypedStmt → Made
stmt_form k f x = form_of (objects Plain k) f x.kind x.at

abbrev pub stmts_form : Typed → ℕ → List TypedStmt → Made
stmts_form k f xs = all_forms (objects Plain k) f xs

-- a statement that may be absent
abbrev pub held_stmt : Typed → ℕ → Option TypedStmt → MadeIfAny
held_stmt k f None = record { stmt = None; types = [] }
held_stmt k f (Some x) = record { stmt = Some (block_of (stmt_form k f x) x.at); types = (stmt_form k f x).types }

-- statements were made, and stand behind those that stood there, as their variables do
pub record IsMade (m : Made) (out : List NormalStmt) (vars : List Ty) (out2 : List NormalStmt) (vars2 : List Ty) : Type 0 where
  pub set : out2 ≡ out ++ m.stmts
  pub made : vars2 ≡ vars ++ m.types

-- the last statement of what is made is of a kind, and the others stand behind those that stood there, as the variables do
abbrev pub IsLast : Made → Span → List NormalStmt → List Ty → List NormalStmt → List Ty → NormalStmtKind → Type 0
IsLast m s out vars out2 vars2 kind = IsMade m out vars (out2 ++ normal_at kind s ∷ []) vars2

-- a statement becomes one alone, of a kind
abbrev pub IsAlone : Typed → TypedStmtKind → List Ty → List Ty → NormalStmtKind → Type 0
IsAlone k x vars vars2 kind = (s : Span) (out : List NormalStmt) → IsLast (form_of (objects Plain k) (length vars) x s) s out vars out vars2 kind

-- what may be absent was expanded
pub record IsOptional (e : Option TypedExpr) (before : List NormalStmt) (vars : List Ty) (before2 : List NormalStmt) (vars2 : List Ty) (r : Option TypedExpr) : Type 0 where
  pub rest : r ≡ rest_if_any (optional (length vars) e) e
  pub set : before2 ≡ before ++ (optional (length vars) e).before
  pub made : vars2 ≡ vars ++ (optional (length vars) e).types

-- a block was made of a statement
pub record IsBlock (k : Typed) (x : TypedStmt) (vars vars2 : List Ty) (r : NormalStmt) : Type 0 where
  pub rest : r ≡ block_of (stmt_form k (length vars) x) x.at
  pub made : vars2 ≡ vars ++ (stmt_form k (length vars) x).types

pub record IsHeld (k : Typed) (x : Option TypedStmt) (vars vars2 : List Ty) (r : Option NormalStmt) : Type 0 where
  pub rest : r ≡ (held_stmt k (length vars) x).stmt
  pub made : vars2 ≡ vars ++ (held_stmt k (length vars) x).types

-- some of several statements are done, and left is what the others make
pub record StmtsGoOn (left all : Made) (out0 : List NormalStmt) (vars0 : List Ty) (out : List NormalStmt) (vars : List Ty) : Type 0 where
  pub set : out ++ left.stmts ≡ out0 ++ all.stmts
  pub made : vars ++ left.types ≡ vars0 ++ all.types

-- target = value
abbrev pub plain_form : ℕ → TypedTarget → TypedExpr → Span → Made
plain_form f target e s =
    let i = expand_all f target.indices in
    let o = expand_expr (f + length i.types) e in
    made (i.before ++ o.before) (normal.Assign (target_with target i.exprs) (rest_of o e)) s (i.types ++ o.types)

-- target op= value, by the type of the target and the joint one
abbrev pub update_form : ℕ → TypedTarget → BinaryOp → Ty → Ty → TypedExpr → Span → Made
update_form f target op t j e s =
    let i = set_all f target.indices in
    compound i target op t j (expand_expr (f + length i.types) e) e s

-- the same, where the indices are variables of their own
abbrev pub update_of : TypedTarget → BinaryOp → Ty → Ty → TypedExpr → Span → NormalStmtKind
update_of target op t j e s = normal.Assign target (new_value (decided_by op) op t j (of_type (object_kind target.to target.indices) t target.at) e s)
