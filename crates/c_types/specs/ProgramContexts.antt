-- Private: what a walk over a program gives for each node, where such helpers may be called and such declarations are in force.
-- It is the cast whatever the dimensions of arrays are.
use Rattle.std.specs.Prelude.{◌≡◌, ℕ, List, map, Option, Some, None}
use Rattle.el_base.specs.declared.span.Span.{Span}
use Rattle.el_base.specs.declared.ty.Ty.{Ty}
use Rattle.c_ast.specs.declared.tree.Param.{Param}
use Rattle.c_ast.specs.declared.tree.Target.{Target}
use Rattle.c_ast.specs.declared.tree.Expr.{Expr}
use Rattle.c_ast.specs.declared.tree.ExprKind.TheVariants as expr
use Rattle.c_ast.specs.declared.tree.Stmt.{Stmt}
use Rattle.c_ast.specs.declared.tree.StmtKind.{StmtKind}
use Rattle.c_ast.specs.declared.tree.Helper.{Helper}
use Rattle.c_ast.specs.declared.tree.Tree.{Tree}
use Rattle.c_ast.specs.declared.program.ProgTree.{ProgTree}
use Rattle.c_ast.specs.declared.program.ProgTarget.{ProgTarget}
use Rattle.c_ast.specs.declared.program.ProgExpr.{ProgExpr}
use Rattle.c_ast.specs.declared.program.ProgStmt.{ProgStmt}
use Rattle.c_ast.specs.declared.program.ProgStmtKind.{ProgStmtKind}
use Rattle.c_ast.specs.Casts.{Context, opened, closed, expr_at, stmt_at, parameters, first_context}
use Rattle.c_ast.specs.ProgramCasts as program
use Rattle.c_ast.specs.ProgramCasts.{known_of, prog_at, prog_converted, prog_converted_all, CastsCallExpr, CastsCallExprs, CastsCallTarget, CastsCallOption, CastsCallStmt, CastsCallHeld, CastsCallStmts}
use Rattle.c_types.specs.declared.known.Known.{Known}
use Rattle.c_types.specs.Contexts.{Bindings, context_in, context_of}

-- ---- helpers

-- helpers as calls see them, in order
abbrev pub callees : List Helper → List program.Known
callees hs = map known_of hs

abbrev pub types_of : List Param → List Ty
types_of ps = map (λ p. p.ty) ps

-- ---- expressions and targets

pub record IsProgExpr (hs : List Helper) (scopes : Bindings) (e : Expr) (f : ProgExpr) : Type 0 where
  pub casts : (dims : ℕ → List ℕ) (types : List Ty) → CastsCallExpr (callees hs) (context_in dims scopes types) e f

pub record AreProgExprs (hs : List Helper) (scopes : Bindings) (es : List Expr) (fs : List ProgExpr) : Type 0 where
  pub casts : (dims : ℕ → List ℕ) (types : List Ty) → CastsCallExprs (callees hs) (context_in dims scopes types) es fs

-- a name, whatever the helpers are
pub record IsProgName (scopes : Bindings) (x : List ℕ) (s : Span) (f : ProgExpr) : Type 0 where
  pub casts : (hs : List Helper) → IsProgExpr hs scopes (expr_at (expr.Name x) s) f

-- an element by its typed indices, whatever the untyped ones are
pub record IsProgElement (scopes : Bindings) (x : List ℕ) (fs : List ProgExpr) (s : Span) (f : ProgExpr) : Type 0 where
  pub casts : (hs : List Helper) (es : List Expr) → AreProgExprs hs scopes es fs → IsProgExpr hs scopes (expr_at (expr.Element x es) s) f

-- arguments, each converted to the type of its parameter
pub record AreArguments (hs : List Helper) (scopes : Bindings) (ps : List Param) (es : List Expr) (gs : List ProgExpr) : Type 0 where
  pub args : List ProgExpr
  pub casts : AreProgExprs hs scopes es args
  pub converted : gs ≡ prog_converted_all (types_of ps) args

pub record IsProgOption (hs : List Helper) (scopes : Bindings) (e : Option Expr) (f : Option ProgExpr) : Type 0 where
  pub casts : (dims : ℕ → List ℕ) (types : List Ty) → CastsCallOption (callees hs) (context_in dims scopes types) e f

-- a target, with the type of its object
pub record IsProgTarget (hs : List Helper) (scopes : Bindings) (x : Target) (to : ProgTarget) (t : Ty) : Type 0 where
  pub casts : (dims : ℕ → List ℕ) (types : List Ty) → CastsCallTarget (callees hs) (context_in dims scopes types) x to t

-- an expression, converted to a type
pub record IsProgConverted (hs : List Helper) (t : Ty) (scopes : Bindings) (e : Expr) (g : ProgExpr) : Type 0 where
  pub value : ProgExpr
  pub casts : IsProgExpr hs scopes e value
  pub converted : g ≡ prog_converted t value

-- a value that may be absent, converted to a type where there is one
pub data IsProgValue (hs : List Helper) : Option Ty → Bindings → Option Expr → Option ProgExpr → Type 0 where
  no_value : (r : Option Ty) (scopes : Bindings) → IsProgValue hs r scopes None None
  a_value : (t : Ty) (scopes : Bindings) (e : Expr) (f : ProgExpr) → IsProgExpr hs scopes e f → IsProgValue hs (Some t) scopes (Some e) (Some (prog_converted t f))

-- ---- statements

pub record IsProgStmt (hs : List Helper) (r : Option Ty) (k : Known) (a : Stmt) (b : ProgStmt) (l : Known) : Type 0 where
  pub casts : (dims : ℕ → List ℕ) → CastsCallStmt (callees hs) r (context_of dims k) a b (context_of dims l)

-- a kind of statement that neither holds statements nor returns, whatever type is returned and wherever it stands
pub record IsProgAct (hs : List Helper) (k : Known) (a : StmtKind) (b : ProgStmtKind) (l : Known) : Type 0 where
  pub casts : (r : Option Ty) (at : Span) → IsProgStmt hs r k (stmt_at a at) (prog_at b at) l

pub record AreProgStmts (hs : List Helper) (r : Option Ty) (k : Known) (ss : List Stmt) (ts : List ProgStmt) (l : Known) : Type 0 where
  pub casts : (dims : ℕ → List ℕ) → CastsCallStmts (callees hs) r (context_of dims k) ss ts (context_of dims l)

pub record IsProgHeld (hs : List Helper) (r : Option Ty) (k : Known) (o : Option Stmt) (p : Option ProgStmt) (l : Known) : Type 0 where
  pub casts : (dims : ℕ → List ℕ) → CastsCallHeld (callees hs) r (context_of dims k) o p (context_of dims l)

-- a statement that is a block of its own: the context after it is that before, with the types of its variables
pub record IsProgWithin (hs : List Helper) (r : Option Ty) (c : Context) (a : Stmt) (b : ProgStmt) (d : Context) : Type 0 where
  pub last : Context
  pub casts : CastsCallStmt (callees hs) r (opened c) a b last
  pub after : d ≡ closed c last

pub record IsProgInside (hs : List Helper) (r : Option Ty) (k : Known) (a : Stmt) (b : ProgStmt) (l : Known) : Type 0 where
  pub casts : (dims : ℕ → List ℕ) → IsProgWithin hs r (context_of dims k) a b (context_of dims l)

-- ---- kernels

pub record IsProgKernel (hs : List Helper) (tree : Tree) (k : ProgTree) : Type 0 where
  pub same_name : k.name ≡ tree.name
  pub same_place : k.at ≡ tree.at
  pub same_result : k.result ≡ tree.result
  pub same_params : k.params ≡ tree.params
  pub arrays_are : k.arrays ≡ (parameters tree.params).arrays
  pub last : Context
  pub body_casts : CastsCallStmts (callees hs) tree.result (first_context tree.params) tree.body k.body last
  pub vars_are : k.vars ≡ last.types
