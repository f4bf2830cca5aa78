-- Which typed program a program has: as for the typed tree of a kernel, with the helpers numbered, and the arguments of each call and the value of each helper converted.
use Rattle.std.specs.Prelude.{◌≡◌, ℕ, suc, List, [], ◌∷◌, ◌++◌, map, length, Bool, true, false, Option, Some, None, if◌then◌else◌}
use Rattle.std.specs.Cmp.Lexicographic.{pointwise}
use Rattle.std.specs.Prelude.{◌==◌}
use Rattle.el_base.specs.declared.span.Span.{Span}
use Rattle.el_base.specs.declared.ty.Ty.{Ty}
use Rattle.c_ast.specs.declared.tree.Unary.{Unary}
use Rattle.c_ast.specs.declared.tree.Binary.{Binary}
use Rattle.c_ast.specs.declared.tree.Target.{Target}
use Rattle.c_ast.specs.declared.tree.Expr.{Expr}
use Rattle.c_ast.specs.declared.tree.ExprKind.TheVariants as expr
use Rattle.c_ast.specs.declared.tree.Stmt.{Stmt}
use Rattle.c_ast.specs.declared.tree.StmtKind.TheVariants as stmt
use Rattle.c_ast.specs.declared.tree.Helper.{Helper}
use Rattle.c_ast.specs.declared.tree.Program.{Program}
use Rattle.c_ast.specs.declared.typed.Object.TheVariants as object
use Rattle.c_ast.specs.declared.program.ProgTarget.{ProgTarget}
use Rattle.c_ast.specs.declared.program.ProgExpr.{ProgExpr}
use Rattle.c_ast.specs.declared.program.ProgExprKind.{ProgExprKind}
use Rattle.c_ast.specs.declared.program.ProgExprKind.TheVariants as typed
use Rattle.c_ast.specs.declared.program.ProgStmt.{ProgStmt}
use Rattle.c_ast.specs.declared.program.ProgStmtKind.{ProgStmtKind}
use Rattle.c_ast.specs.declared.program.ProgStmtKind.TheVariants as act
use Rattle.c_ast.specs.declared.program.TypedHelper.{TypedHelper}
use Rattle.c_ast.specs.declared.program.TypedProgram.{TypedProgram}
use Rattle.c_ast.specs.ResultTypes.{promoted, usual, joint_type, result_type, unary_type}
use Rattle.c_ast.specs.Casts.{a_var, an_array, Context, declared_as, with_var, opened, closed, same_type, left_type, right_type, assigned_type, expr_at, stmt_at, parameters, first_context}

-- ---- helpers, as calls see them

pub record Known : Type 0 where
  pub name : List ℕ
  pub params : List Ty
  pub result : Ty

-- the helper of a name, and its place in the list, where that begins with the place n
abbrev pub helper_from : ℕ → List Known → List ℕ → Option (ℕ × Known)
helper_from n [] x = None
helper_from n (k ∷ ks) x = if pointwise ◌==◌ k.name x then Some (n, k) else helper_from (suc n) ks x

abbrev pub helper_of : List Known → List ℕ → Option (ℕ × Known)
helper_of ks x = helper_from 0 ks x

abbrev pub known_of : Helper → Known
known_of h = record { name = h.name; params = map (λ p. p.ty) h.params; result = h.result }

abbrev pub prog_of : ProgExprKind → Ty → Span → ProgExpr
prog_of kind t s = record { kind = kind; ty = t; at = s }

abbrev pub prog_converted : Ty → ProgExpr → ProgExpr
prog_converted t e = if same_type t e.ty then e else prog_of (typed.Cast true e) t e.at

abbrev pub prog_converted_all : List Ty → List ProgExpr → List ProgExpr
prog_converted_all [] es = []
prog_converted_all (t ∷ ts) [] = []
prog_converted_all (t ∷ ts) (e ∷ es) = prog_converted t e ∷ prog_converted_all ts es

-- ---- expressions

mutual
  pub data CastsCallExpr (hs : List Known) : Context → Expr → ProgExpr → Type 0 where
    number : (c : Context) (n : ℕ) (t : Ty) (s : Span) → CastsCallExpr hs c (expr_at (expr.Number n t) s) (prog_of (typed.Number n) t s)
    name : (c : Context) (x : List ℕ) (v : ℕ) (t : Ty) (s : Span) → declared_as c x ≡ Some (a_var v t) → CastsCallExpr hs c (expr_at (expr.Name x) s) (prog_of (typed.Var v) t s)
    element : (c : Context) (x : List ℕ) (a : ℕ) (t : Ty) (ds : List ℕ) (es : List Expr) (fs : List ProgExpr) (s : Span)
        → declared_as c x ≡ Some (an_array a t ds) → CastsCallExprs hs c es fs → CastsCallExpr hs c (expr_at (expr.Element x es) s) (prog_of (typed.Element a fs) t s)
    -- a name that no variable or array has there is that of a helper; each argument is converted to the type of its parameter
    call : (c : Context) (x : List ℕ) (j : ℕ) (k : Known) (es : List Expr) (fs : List ProgExpr) (s : Span)
        → declared_as c x ≡ None → helper_of hs x ≡ Some (j, k) → length es ≡ length k.params → CastsCallExprs hs c es fs
        → CastsCallExpr hs c (expr_at (expr.Call x es) s) (prog_of (typed.Call j (prog_converted_all k.params fs)) k.result s)
    -- an element of a variable has no index, and is the variable
    whole : (c : Context) (x : List ℕ) (v : ℕ) (t : Ty) (s : Span) → declared_as c x ≡ Some (a_var v t) → CastsCallExpr hs c (expr_at (expr.Element x []) s) (prog_of (typed.Var v) t s)
    -- the operand is promoted; ! gives I32
    unary : (c : Context) (op : Unary) (e : Expr) (f : ProgExpr) (s : Span) → CastsCallExpr hs c e f
        → CastsCallExpr hs c (expr_at (expr.Unary op e) s) (prog_of (typed.Unary op (prog_converted (promoted f.ty) f)) (unary_type op (promoted f.ty)) s)
    cast : (c : Context) (t : Ty) (e : Expr) (f : ProgExpr) (s : Span) → CastsCallExpr hs c e f → CastsCallExpr hs c (expr_at (expr.Cast t e) s) (prog_of (typed.Cast false f) t s)
    binary : (c : Context) (op : Binary) (e g : Expr) (f h : ProgExpr) (s : Span) → CastsCallExpr hs c e f → CastsCallExpr hs c g h
        → CastsCallExpr hs c (expr_at (expr.Binary op e g) s) (prog_of (typed.Binary op (prog_converted (left_type op f.ty h.ty) f) (prog_converted (right_type op f.ty h.ty) h)) (result_type op (joint_type op f.ty h.ty)) s)
    choose : (c : Context) (e g i : Expr) (f h j : ProgExpr) (s : Span) → CastsCallExpr hs c e f → CastsCallExpr hs c g h → CastsCallExpr hs c i j
        → CastsCallExpr hs c (expr_at (expr.Choose e g i) s) (prog_of (typed.Choose f (prog_converted (usual h.ty j.ty) h) (prog_converted (usual h.ty j.ty) j)) (usual h.ty j.ty) s)

  pub data CastsCallExprs (hs : List Known) : Context → List Expr → List ProgExpr → Type 0 where
    no_more : (c : Context) → CastsCallExprs hs c [] []
    one_more : (c : Context) (e : Expr) (f : ProgExpr) (es : List Expr) (fs : List ProgExpr) → CastsCallExpr hs c e f → CastsCallExprs hs c es fs → CastsCallExprs hs c (e ∷ es) (f ∷ fs)

-- ---- statements

-- a target, with the type of its object
pub data CastsCallTarget (hs : List Known) : Context → Target → ProgTarget → Ty → Type 0 where
  to_var : (c : Context) (x : List ℕ) (v : ℕ) (t : Ty) (s : Span) → declared_as c x ≡ Some (a_var v t)
      → CastsCallTarget hs c (record { name = x; at = s; indices = [] }) (record { to = object.Var v; at = s; indices = [] }) t
  to_element : (c : Context) (x : List ℕ) (a : ℕ) (t : Ty) (ds : List ℕ) (e : Expr) (es : List Expr) (fs : List ProgExpr) (s : Span)
      → declared_as c x ≡ Some (an_array a t ds) → CastsCallExprs hs c (e ∷ es) fs
      → CastsCallTarget hs c (record { name = x; at = s; indices = e ∷ es }) (record { to = object.Array a; at = s; indices = fs }) t

-- what may be absent
pub data CastsCallOption (hs : List Known) : Context → Option Expr → Option ProgExpr → Type 0 where
  absent : (c : Context) → CastsCallOption hs c None None
  present : (c : Context) (e : Expr) (f : ProgExpr) → CastsCallExpr hs c e f → CastsCallOption hs c (Some e) (Some f)

abbrev pub prog_at : ProgStmtKind → Span → ProgStmt
prog_at kind s = record { kind = kind; at = s }

mutual
  -- a statement in a kernel of a result, from one context to the next; the parts of if, while, do and for are blocks of their own (6.8.4p3, 6.8.5p5)
  pub data CastsCallStmt (hs : List Known) : Option Ty → Context → Stmt → ProgStmt → Context → Type 0 where
    block : (r : Option Ty) (c d : Context) (ss : List Stmt) (ts : List ProgStmt) (s : Span) → CastsCallStmts hs r (opened c) ss ts d
        → CastsCallStmt hs r c (stmt_at (stmt.Block ss) s) (prog_at (act.Block ts) s) (closed c d)
    declare : (r : Option Ty) (c : Context) (x : List ℕ) (t : Ty) (s : Span)
        → CastsCallStmt hs r c (stmt_at (stmt.Declare x t None) s) (prog_at (act.Declare (length c.types) None) s) (with_var x t c)
    -- the scope of a name begins right after its declarator, before its value (6.2.1p7)
    declare_value : (r : Option Ty) (c : Context) (x : List ℕ) (t : Ty) (e : Expr) (f : ProgExpr) (s : Span) → CastsCallExpr hs (with_var x t c) e f
        → CastsCallStmt hs r c (stmt_at (stmt.Declare x t (Some e)) s) (prog_at (act.Declare (length c.types) (Some (prog_converted t f))) s) (with_var x t c)
    assign : (r : Option Ty) (c : Context) (target : Target) (to : ProgTarget) (t : Ty) (op : Option Binary) (e : Expr) (f : ProgExpr) (s : Span)
        → CastsCallTarget hs c target to t → CastsCallExpr hs c e f
        → CastsCallStmt hs r c (stmt_at (stmt.Assign target op e) s) (prog_at (act.Assign to op (prog_converted (assigned_type op t f.ty) f)) s) c
    step : (r : Option Ty) (c : Context) (target : Target) (to : ProgTarget) (t : Ty) (up : Bool) (s : Span) → CastsCallTarget hs c target to t
        → CastsCallStmt hs r c (stmt_at (stmt.Step target up) s) (prog_at (act.Step to up) s) c
    choice : (r : Option Ty) (c d d2 : Context) (e : Expr) (f : ProgExpr) (a : Stmt) (b : ProgStmt) (o : Option Stmt) (p : Option ProgStmt) (s : Span)
        → CastsCallExpr hs c e f → CastsCallStmt hs r (opened c) a b d → CastsCallHeld hs r (closed c d) o p d2 → CastsCallStmt hs r c (stmt_at (stmt.If e a o) s) (prog_at (act.If f b p) s) d2
    while_loop : (r : Option Ty) (c d : Context) (e : Expr) (f : ProgExpr) (a : Stmt) (b : ProgStmt) (s : Span)
        → CastsCallExpr hs c e f → CastsCallStmt hs r (opened c) a b d → CastsCallStmt hs r c (stmt_at (stmt.While e a) s) (prog_at (act.While f b) s) (closed c d)
    do_loop : (r : Option Ty) (c d : Context) (e : Expr) (f : ProgExpr) (a : Stmt) (b : ProgStmt) (s : Span)
        → CastsCallStmt hs r (opened c) a b d → CastsCallExpr hs c e f → CastsCallStmt hs r c (stmt_at (stmt.DoWhile a e) s) (prog_at (act.DoWhile b f) s) (closed c d)
    -- a for has a scope of its own
    for_loop : (r : Option Ty) (c d d2 d3 : Context) (ss : List Stmt) (ts : List ProgStmt) (e : Option Expr) (f : Option ProgExpr) (o : Option Stmt) (p : Option ProgStmt) (a : Stmt) (b : ProgStmt) (s : Span)
        → CastsCallStmts hs r (opened c) ss ts d → CastsCallOption hs d e f → CastsCallHeld hs r d o p d2 → CastsCallStmt hs r (opened d2) a b d3
        → CastsCallStmt hs r c (stmt_at (stmt.For ss e o a) s) (prog_at (act.For ts f p b) s) (closed c d3)
    leaving : (r : Option Ty) (c : Context) (s : Span) → CastsCallStmt hs r c (stmt_at stmt.Break s) (prog_at act.Break s) c
    continuing : (r : Option Ty) (c : Context) (s : Span) → CastsCallStmt hs r c (stmt_at stmt.Continue s) (prog_at act.Continue s) c
    return_nothing : (r : Option Ty) (c : Context) (s : Span) → CastsCallStmt hs r c (stmt_at (stmt.Return None) s) (prog_at (act.Return None) s) c
    return_value : (t : Ty) (c : Context) (e : Expr) (f : ProgExpr) (s : Span) → CastsCallExpr hs c e f
        → CastsCallStmt hs (Some t) c (stmt_at (stmt.Return (Some e)) s) (prog_at (act.Return (Some (prog_converted t f))) s) c
    empty : (r : Option Ty) (c : Context) (s : Span) → CastsCallStmt hs r c (stmt_at stmt.Empty s) (prog_at act.Empty s) c

  pub data CastsCallHeld (hs : List Known) : Option Ty → Context → Option Stmt → Option ProgStmt → Context → Type 0 where
    no_statement : (r : Option Ty) (c : Context) → CastsCallHeld hs r c None None c
    a_statement : (r : Option Ty) (c d : Context) (a : Stmt) (b : ProgStmt) → CastsCallStmt hs r (opened c) a b d → CastsCallHeld hs r c (Some a) (Some b) (closed c d)

  pub data CastsCallStmts (hs : List Known) : Option Ty → Context → List Stmt → List ProgStmt → Context → Type 0 where
    done : (r : Option Ty) (c : Context) → CastsCallStmts hs r c [] [] c
    more : (r : Option Ty) (c d d2 : Context) (a : Stmt) (b : ProgStmt) (ss : List Stmt) (ts : List ProgStmt)
        → CastsCallStmt hs r c a b d → CastsCallStmts hs r d ss ts d2 → CastsCallStmts hs r c (a ∷ ss) (b ∷ ts) d2

-- ---- programs

-- a helper behind others; its value is in the scope of its statements
pub record CastsHelper (hs : List Known) (h : Helper) (k : TypedHelper) : Type 0 where
  pub same_name : k.name ≡ h.name
  pub same_place : k.at ≡ h.at
  pub same_result : k.result ≡ h.result
  pub same_params : k.params ≡ h.params
  pub last : Context
  pub body_casts : CastsCallStmts hs (Some h.result) (first_context h.params) h.body k.body last
  pub value : ProgExpr
  pub value_casts : CastsCallExpr hs last h.value value
  pub value_is : k.value ≡ prog_converted h.result value
  pub vars_are : k.vars ≡ last.types

pub data CastsHelpers : List Known → List Helper → List TypedHelper → Type 0 where
  no_helpers : (hs : List Known) → CastsHelpers hs [] []
  a_helper : (hs : List Known) (h : Helper) (k : TypedHelper) (more : List Helper) (ks : List TypedHelper)
      → CastsHelper hs h k → CastsHelpers (hs ++ known_of h ∷ []) more ks → CastsHelpers hs (h ∷ more) (k ∷ ks)

pub record CastsProgram (p : Program) (P : TypedProgram) : Type 0 where
  pub helpers_cast : CastsHelpers [] p.helpers P.helpers
  pub same_name : P.kernel.name ≡ p.kernel.name
  pub same_place : P.kernel.at ≡ p.kernel.at
  pub same_result : P.kernel.result ≡ p.kernel.result
  pub same_params : P.kernel.params ≡ p.kernel.params
  pub arrays_are : P.kernel.arrays ≡ (parameters p.kernel.params).arrays
  pub last : Context
  pub body_casts : CastsCallStmts (map known_of p.helpers) p.kernel.result (first_context p.kernel.params) p.kernel.body P.kernel.body last
  pub vars_are : P.kernel.vars ≡ last.types
