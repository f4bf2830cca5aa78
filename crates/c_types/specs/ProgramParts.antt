-- Private: what a part of a program that keeps the typing rules keeps where such helpers may be called and such declarations are in force, and that the variables up to its end can be numbered.
-- It is what the walk that makes the typed program rests on.
use Rattle.std.specs.Prelude.{◌≡◌, ℕ, ◌+◌, ◌<◌, List, [], ◌∷◌, ◌++◌, length, Bool, false, Option, Some, None}
use Rattle.el_base.specs.Limits.{IsNumbered}
use Rattle.el_base.specs.declared.ty.Ty.{Ty}
use Rattle.c_ast.specs.declared.tree.Target.{Target}
use Rattle.c_ast.specs.declared.tree.Expr.{Expr}
use Rattle.c_ast.specs.declared.tree.Stmt.{Stmt}
use Rattle.c_ast.specs.declared.tree.Helper.{Helper}
use Rattle.c_ast.specs.declared.tree.Tree.{Tree}
use Rattle.c_ast.specs.Nodes.{stmt_nodes, stmts_nodes, tree_nodes}
use Rattle.c_ast.specs.Programs.{helper_nodes, TypingHelper}
use Rattle.c_ast.specs.Typing.{Sort, a_helper, sort_in, Names, TypingExpr, TypingTarget, TypingStmt, TypingList, TypingParams, scope_of}
use Rattle.c_ast.specs.ProgramCasts as program
use Rattle.c_ast.specs.ProgramCasts.{helper_of}
use Rattle.c_types.specs.Contexts.{Bindings}
use Rattle.c_types.specs.TypingParts.{names_in}
use Rattle.c_types.specs.ProgramContexts.{callees}

-- what a helper's name stands for, by its place among others
abbrev pub sort_of_callee : Option (ℕ × program.Known) → Option Sort
sort_of_callee None = None
sort_of_callee (Some (j, k)) = Some (a_helper (length k.params))

-- the names of helpers in force are theirs
pub record Knows (hs : List program.Known) (known : List (List ℕ × Sort)) : Type 0 where
  pub knows : (x : List ℕ) → sort_in known x ≡ sort_of_callee (helper_of hs x)

-- the dimensions of arrays by their numbers, and the names of helpers, whose places can be numbered
pub record Around (hs : List Helper) : Type 0 where
  pub dims : ℕ → List ℕ
  pub known : List (List ℕ × Sort)
  pub callees_known : Knows (callees hs) known
  pub callees_numbered : IsNumbered (length hs)

-- the names in force, helpers outermost
abbrev pub names_with : {hs : List Helper} → Around hs → Bindings → Names
names_with w scopes = names_in w.dims scopes ++ w.known ∷ []

pub record TypingExprWith (hs : List Helper) (scopes : Bindings) (e : Expr) : Type 0 where
  pub around : Around hs
  pub typing : TypingExpr (names_with around scopes) e

pub record TypingTargetWith (hs : List Helper) (scopes : Bindings) (t : Target) : Type 0 where
  pub around : Around hs
  pub typing : TypingTarget (names_with around scopes) t

-- a statement in at least one scope, before which so many variables are declared
pub record TypingStmtWith (hs : List Helper) (r : Option Ty) (scopes : Bindings) (vars : ℕ) (s : Stmt) : Type 0 where
  pub around : Around hs
  pub loop : Bool
  pub some : 0 < length scopes
  pub typing : TypingStmt s.kind r loop (names_with around scopes)
  pub numbered : IsNumbered (vars + stmt_nodes s)

-- statements one after another
pub record TypingListWith (hs : List Helper) (r : Option Ty) (scopes : Bindings) (vars : ℕ) (ss : List Stmt) : Type 0 where
  pub around : Around hs
  pub loop : Bool
  pub some : 0 < length scopes
  pub typing : TypingList ss r loop (names_with around scopes)
  pub numbered : IsNumbered (vars + stmts_nodes ss)

-- a called name with so many arguments
pub record IsCallee (hs : List Helper) (x : List ℕ) (arguments : ℕ) : Type 0 where
  pub place : ℕ
  pub callee : program.Known
  pub found : helper_of (callees hs) x ≡ Some (place, callee)
  pub one_for_each : arguments ≡ length callee.params

-- a name of a helper
pub record HasCallee (hs : List Helper) (x : List ℕ) : Type 0 where
  pub place : ℕ
  pub callee : program.Known
  pub found : helper_of (callees hs) x ≡ Some (place, callee)

-- a helper behind others, and the kernel behind all
pub record TypingHelperWith (hs : List Helper) (h : Helper) : Type 0 where
  pub known : List (List ℕ × Sort)
  pub callees_known : Knows (callees hs) known
  pub callees_numbered : IsNumbered (length hs)
  pub keeps : TypingHelper known h
  pub numbered : IsNumbered (helper_nodes h)

pub record TypingKernelWith (hs : List Helper) (k : Tree) : Type 0 where
  pub known : List (List ℕ × Sort)
  pub callees_known : Knows (callees hs) known
  pub callees_numbered : IsNumbered (length hs)
  pub params_keep : TypingParams k.params [] 0
  pub body_keeps : TypingList k.body k.result false (scope_of k.params [] ∷ known ∷ [])
  pub numbered : IsNumbered (tree_nodes k)
