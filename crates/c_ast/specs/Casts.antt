-- Which typed tree a syntax tree has: its names numbered, its types written, and each implied conversion a cast that is marked as implied (ISO/IEC 9899:1999 6.2.1, 6.3.1.8, 6.5).
-- Variables and arrays are each numbered from 0 in order of declaration, parameters first. The relation says nothing of what a kernel must keep besides: that is told by `Typing`.
use Rattle.std.specs.Prelude.{◌≡◌, ℕ, ◌==◌, List, [], ◌∷◌, ◌++◌, length, flat_map, Bool, true, false, not, ◌&&◌, Option, Some, None, if◌then◌else◌}
use Rattle.std.specs.Cmp.Lexicographic.{pointwise}
use Rattle.std.specs.Map.{lookup}
use Rattle.el_base.specs.declared.span.Span.{Span}
use Rattle.el_base.specs.declared.ty.Ty.{Ty}
use Rattle.el_base.specs.Widths.{ty_width, ty_signed}
use Rattle.c_ast.specs.declared.tree.Unary.{Unary}
use Rattle.c_ast.specs.declared.tree.Binary.{Binary}
use Rattle.c_ast.specs.declared.tree.Family.{Family}
use Rattle.c_ast.specs.declared.tree.Family.TheVariants.{Arithmetic, Shift, Bits, Comparison, Logical}
use Rattle.c_ast.specs.declared.tree.Param.{Param}
use Rattle.c_ast.specs.declared.tree.Target.{Target}
use Rattle.c_ast.specs.declared.tree.Expr.{Expr}
use Rattle.c_ast.specs.declared.tree.ExprKind.{ExprKind}
use Rattle.c_ast.specs.declared.tree.ExprKind.TheVariants as expr
use Rattle.c_ast.specs.declared.tree.Stmt.{Stmt}
use Rattle.c_ast.specs.declared.tree.StmtKind.{StmtKind}
use Rattle.c_ast.specs.declared.tree.StmtKind.TheVariants as stmt
use Rattle.c_ast.specs.declared.tree.Tree.{Tree}
use Rattle.c_ast.specs.declared.typed.ArrayOf.{ArrayOf}
use Rattle.c_ast.specs.declared.typed.Object.TheVariants as object
use Rattle.c_ast.specs.declared.typed.TypedTarget.{TypedTarget}
use Rattle.c_ast.specs.declared.typed.TypedExpr.{TypedExpr}
use Rattle.c_ast.specs.declared.typed.TypedExprKind.{TypedExprKind}
use Rattle.c_ast.specs.declared.typed.TypedExprKind.TheVariants as typed
use Rattle.c_ast.specs.declared.typed.TypedStmt.{TypedStmt}
use Rattle.c_ast.specs.declared.typed.TypedStmtKind.{TypedStmtKind}
use Rattle.c_ast.specs.declared.typed.TypedStmtKind.TheVariants as act
use Rattle.c_ast.specs.declared.typed.Typed.{Typed}
use Rattle.c_ast.specs.ResultTypes.{promoted, usual, family, joint_type, result_type, unary_type}

-- ---- declarations in force

-- what a name stands for: a variable with its type, or an array with the type of its elements and its dimensions
pub data Declared : Type 0 where
  a_var : ℕ → Ty → Declared
  an_array : ℕ → Ty → List ℕ → Declared

abbrev pub Scope : Type 0
Scope = List (List ℕ × Declared)

-- the scopes in force, the innermost first, and the types of all variables that are declared so far
pub record Context : Type 0 where
  pub scopes : List Scope
  pub types : List Ty

-- what a name stands for at a place: its innermost declaration
abbrev pub declared_as : Context → List ℕ → Option Declared
declared_as c x = lookup (pointwise ◌==◌ x) (flat_map (λ s. s) c.scopes)

abbrev pub into_innermost : List ℕ × Declared → List Scope → List Scope
into_innermost d [] = (d ∷ []) ∷ []
into_innermost d (s ∷ ss) = (d ∷ s) ∷ ss

-- after a declarator
abbrev pub with_var : List ℕ → Ty → Context → Context
with_var x t c = record { scopes = into_innermost (x, a_var (length c.types) t) c.scopes; types = c.types ++ t ∷ [] }

-- in a new scope, and after it
abbrev pub opened : Context → Context
opened c = record { scopes = [] ∷ c.scopes; types = c.types }

abbrev pub closed : Context → Context → Context
closed before last = record { scopes = before.scopes; types = last.types }

-- ---- implied conversions

-- two types are one where they have one width and both have negative numbers or neither has
abbrev pub same_type : Ty → Ty → Bool
same_type a b = ty_width a == ty_width b && (if ty_signed a then ty_signed b else not (ty_signed b))

abbrev pub of_type : TypedExprKind → Ty → Span → TypedExpr
of_type kind t s = record { kind = kind; ty = t; at = s }

-- an expression where a type is asked: itself, or an implied cast of it at its place
abbrev pub converted : Ty → TypedExpr → TypedExpr
converted t e = if same_type t e.ty then e else of_type (typed.Cast true e) t e.at

-- the operands of an operator: the sides of && and || stay, those of a shift are each promoted, and all others get their usual type
abbrev pub left_of_family : Family → Ty → Ty → Ty
left_of_family Arithmetic a b = usual a b
left_of_family Shift a b = promoted a
left_of_family Bits a b = usual a b
left_of_family Comparison a b = usual a b
left_of_family Logical a b = a

abbrev pub left_type : Binary → Ty → Ty → Ty
left_type op a b = left_of_family (family op) a b

abbrev pub right_of_family : Family → Ty → Ty → Ty
right_of_family Arithmetic a b = usual a b
right_of_family Shift a b = promoted b
right_of_family Bits a b = usual a b
right_of_family Comparison a b = usual a b
right_of_family Logical a b = b

abbrev pub right_type : Binary → Ty → Ty → Ty
right_type op a b = right_of_family (family op) a b

-- ---- expressions

abbrev pub expr_at : ExprKind → Span → Expr
expr_at kind s = record { kind = kind; at = s }

mutual
  pub data CastsExpr : Context → Expr → TypedExpr → Type 0 where
    number : (c : Context) (n : ℕ) (t : Ty) (s : Span) → CastsExpr c (expr_at (expr.Number n t) s) (of_type (typed.Number n) t s)
    name : (c : Context) (x : List ℕ) (v : ℕ) (t : Ty) (s : Span) → declared_as c x ≡ Some (a_var v t) → CastsExpr c (expr_at (expr.Name x) s) (of_type (typed.Var v) t s)
    element : (c : Context) (x : List ℕ) (a : ℕ) (t : Ty) (ds : List ℕ) (es : List Expr) (fs : List TypedExpr) (s : Span)
        → declared_as c x ≡ Some (an_array a t ds) → CastsExprs c es fs → CastsExpr c (expr_at (expr.Element x es) s) (of_type (typed.Element a fs) t s)
    -- an element of a variable has no index, and is the variable
    whole : (c : Context) (x : List ℕ) (v : ℕ) (t : Ty) (s : Span) → declared_as c x ≡ Some (a_var v t) → CastsExpr c (expr_at (expr.Element x []) s) (of_type (typed.Var v) t s)
    -- the operand is promoted; ! gives I32
    unary : (c : Context) (op : Unary) (e : Expr) (f : TypedExpr) (s : Span) → CastsExpr c e f
        → CastsExpr c (expr_at (expr.Unary op e) s) (of_type (typed.Unary op (converted (promoted f.ty) f)) (unary_type op (promoted f.ty)) s)
    cast : (c : Context) (t : Ty) (e : Expr) (f : TypedExpr) (s : Span) → CastsExpr c e f → CastsExpr c (expr_at (expr.Cast t e) s) (of_type (typed.Cast false f) t s)
    binary : (c : Context) (op : Binary) (e g : Expr) (f h : TypedExpr) (s : Span) → CastsExpr c e f → CastsExpr c g h
        → CastsExpr c (expr_at (expr.Binary op e g) s) (of_type (typed.Binary op (converted (left_type op f.ty h.ty) f) (converted (right_type op f.ty h.ty) h)) (result_type op (joint_type op f.ty h.ty)) s)
    choose : (c : Context) (e g i : Expr) (f h j : TypedExpr) (s : Span) → CastsExpr c e f → CastsExpr c g h → CastsExpr c i j
        → CastsExpr c (expr_at (expr.Choose e g i) s) (of_type (typed.Choose f (converted (usual h.ty j.ty) h) (converted (usual h.ty j.ty) j)) (usual h.ty j.ty) s)

  pub data CastsExprs : Context → List Expr → List TypedExpr → Type 0 where
    no_more : (c : Context) → CastsExprs c [] []
    one_more : (c : Context) (e : Expr) (f : TypedExpr) (es : List Expr) (fs : List TypedExpr) → CastsExpr c e f → CastsExprs c es fs → CastsExprs c (e ∷ es) (f ∷ fs)

-- ---- statements

-- a target, with the type of its object
pub data CastsTarget : Context → Target → TypedTarget → Ty → Type 0 where
  to_var : (c : Context) (x : List ℕ) (v : ℕ) (t : Ty) (s : Span) → declared_as c x ≡ Some (a_var v t)
      → CastsTarget c (record { name = x; at = s; indices = [] }) (record { to = object.Var v; at = s; indices = [] }) t
  to_element : (c : Context) (x : List ℕ) (a : ℕ) (t : Ty) (ds : List ℕ) (e : Expr) (es : List Expr) (fs : List TypedExpr) (s : Span)
      → declared_as c x ≡ Some (an_array a t ds) → CastsExprs c (e ∷ es) fs
      → CastsTarget c (record { name = x; at = s; indices = e ∷ es }) (record { to = object.Array a; at = s; indices = fs }) t

-- what may be absent
pub data CastsOption : Context → Option Expr → Option TypedExpr → Type 0 where
  absent : (c : Context) → CastsOption c None None
  present : (c : Context) (e : Expr) (f : TypedExpr) → CastsExpr c e f → CastsOption c (Some e) (Some f)

abbrev pub stmt_at : StmtKind → Span → Stmt
stmt_at kind s = record { kind = kind; at = s }

abbrev pub act_at : TypedStmtKind → Span → TypedStmt
act_at kind s = record { kind = kind; at = s }

-- the type that the value of an assignment to a type is converted to: with an operator, that of its right operand
abbrev pub assigned_type : Option Binary → Ty → Ty → Ty
assigned_type None t u = t
assigned_type (Some op) t u = right_type op t u

mutual
  -- a statement in a kernel of a result, from one context to the next; the parts of if, while, do and for are blocks of their own (6.8.4p3, 6.8.5p5)
  pub data CastsStmt : Option Ty → Context → Stmt → TypedStmt → Context → Type 0 where
    block : (r : Option Ty) (c d : Context) (ss : List Stmt) (ts : List TypedStmt) (s : Span) → CastsStmts r (opened c) ss ts d
        → CastsStmt r c (stmt_at (stmt.Block ss) s) (act_at (act.Block ts) s) (closed c d)
    declare : (r : Option Ty) (c : Context) (x : List ℕ) (t : Ty) (s : Span)
        → CastsStmt r c (stmt_at (stmt.Declare x t None) s) (act_at (act.Declare (length c.types) None) s) (with_var x t c)
    -- the scope of a name begins right after its declarator, before its value (6.2.1p7)
    declare_value : (r : Option Ty) (c : Context) (x : List ℕ) (t : Ty) (e : Expr) (f : TypedExpr) (s : Span) → CastsExpr (with_var x t c) e f
        → CastsStmt r c (stmt_at (stmt.Declare x t (Some e)) s) (act_at (act.Declare (length c.types) (Some (converted t f))) s) (with_var x t c)
    assign : (r : Option Ty) (c : Context) (target : Target) (to : TypedTarget) (t : Ty) (op : Option Binary) (e : Expr) (f : TypedExpr) (s : Span)
        → CastsTarget c target to t → CastsExpr c e f
        → CastsStmt r c (stmt_at (stmt.Assign target op e) s) (act_at (act.Assign to op (converted (assigned_type op t f.ty) f)) s) c
    step : (r : Option Ty) (c : Context) (target : Target) (to : TypedTarget) (t : Ty) (up : Bool) (s : Span) → CastsTarget c target to t
        → CastsStmt r c (stmt_at (stmt.Step target up) s) (act_at (act.Step to up) s) c
    choice : (r : Option Ty) (c d d2 : Context) (e : Expr) (f : TypedExpr) (a : Stmt) (b : TypedStmt) (o : Option Stmt) (p : Option TypedStmt) (s : Span)
        → CastsExpr c e f → CastsStmt r (opened c) a b d → CastsHeld r (closed c d) o p d2 → CastsStmt r c (stmt_at (stmt.If e a o) s) (act_at (act.If f b p) s) d2
    while_loop : (r : Option Ty) (c d : Context) (e : Expr) (f : TypedExpr) (a : Stmt) (b : TypedStmt) (s : Span)
        → CastsExpr c e f → CastsStmt r (opened c) a b d → CastsStmt r c (stmt_at (stmt.While e a) s) (act_at (act.While f b) s) (closed c d)
    do_loop : (r : Option Ty) (c d : Context) (e : Expr) (f : TypedExpr) (a : Stmt) (b : TypedStmt) (s : Span)
        → CastsStmt r (opened c) a b d → CastsExpr c e f → CastsStmt r c (stmt_at (stmt.DoWhile a e) s) (act_at (act.DoWhile b f) s) (closed c d)
    -- a for has a scope of its own
    for_loop : (r : Option Ty) (c d d2 d3 : Context) (ss : List Stmt) (ts : List TypedStmt) (e : Option Expr) (f : Option TypedExpr) (o : Option Stmt) (p : Option TypedStmt) (a : Stmt) (b : TypedStmt) (s : Span)
        → CastsStmts r (opened c) ss ts d → CastsOption d e f → CastsHeld r d o p d2 → CastsStmt r (opened d2) a b d3
        → CastsStmt r c (stmt_at (stmt.For ss e o a) s) (act_at (act.For ts f p b) s) (closed c d3)
    leaving : (r : Option Ty) (c : Context) (s : Span) → CastsStmt r c (stmt_at stmt.Break s) (act_at act.Break s) c
    continuing : (r : Option Ty) (c : Context) (s : Span) → CastsStmt r c (stmt_at stmt.Continue s) (act_at act.Continue s) c
    return_nothing : (r : Option Ty) (c : Context) (s : Span) → CastsStmt r c (stmt_at (stmt.Return None) s) (act_at (act.Return None) s) c
    return_value : (t : Ty) (c : Context) (e : Expr) (f : TypedExpr) (s : Span) → CastsExpr c e f
        → CastsStmt (Some t) c (stmt_at (stmt.Return (Some e)) s) (act_at (act.Return (Some (converted t f))) s) c
    empty : (r : Option Ty) (c : Context) (s : Span) → CastsStmt r c (stmt_at stmt.Empty s) (act_at act.Empty s) c

  pub data CastsHeld : Option Ty → Context → Option Stmt → Option TypedStmt → Context → Type 0 where
    no_statement : (r : Option Ty) (c : Context) → CastsHeld r c None None c
    a_statement : (r : Option Ty) (c d : Context) (a : Stmt) (b : TypedStmt) → CastsStmt r (opened c) a b d → CastsHeld r c (Some a) (Some b) (closed c d)

  pub data CastsStmts : Option Ty → Context → List Stmt → List TypedStmt → Context → Type 0 where
    done : (r : Option Ty) (c : Context) → CastsStmts r c [] [] c
    more : (r : Option Ty) (c d d2 : Context) (a : Stmt) (b : TypedStmt) (ss : List Stmt) (ts : List TypedStmt)
        → CastsStmt r c a b d → CastsStmts r d ss ts d2 → CastsStmts r c (a ∷ ss) (b ∷ ts) d2

-- ---- kernels

-- what parameters declare: the one scope that they share with the block, the variables, and the arrays
pub record Parameters : Type 0 where
  pub scope : Scope
  pub types : List Ty
  pub arrays : List ArrayOf

abbrev pub with_param : Param → List ℕ → Parameters → Parameters
with_param p [] q = record { scope = (p.name, a_var (length q.types) p.ty) ∷ q.scope; types = q.types ++ p.ty ∷ []; arrays = q.arrays }
with_param p (d ∷ ds) q =
    record { scope = (p.name, an_array (length q.arrays) p.ty p.dims) ∷ q.scope; types = q.types; arrays = q.arrays ++ record { name = p.name; ty = p.ty; dims = p.dims } ∷ [] }

abbrev pub with_params : List Param → Parameters → Parameters
with_params [] q = q
with_params (p ∷ ps) q = with_params ps (with_param p p.dims q)

abbrev pub parameters : List Param → Parameters
parameters ps = with_params ps (record { scope = []; types = []; arrays = [] })

abbrev pub first_context : List Param → Context
first_context ps = record { scopes = (parameters ps).scope ∷ []; types = (parameters ps).types }

-- K is the typed tree of a syntax tree
pub record Casts (tree : Tree) (k : Typed) : Type 0 where
  pub same_name : k.name ≡ tree.name
  pub same_place : k.at ≡ tree.at
  pub same_result : k.result ≡ tree.result
  pub same_params : k.params ≡ tree.params
  pub arrays_are : k.arrays ≡ (parameters tree.params).arrays
  pub last : Context
  pub body_casts : CastsStmts tree.result (first_context tree.params) tree.body k.body last
  pub vars_are : k.vars ≡ last.types
