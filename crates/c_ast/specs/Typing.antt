-- What the syntax tree of a kernel keeps besides the grammar: one condition for each rule on names, arrays, returns and loops (ISO/IEC 9899:1999 6.2.1, 6.5.1, 6.7, 6.8.6). The rules have the numbers of their refusals, 20 to 27.
use Rattle.std.specs.Prelude.{◌≡◌, ℕ, ◌+◌, ◌*◌, ◌<◌, ◌≤◌, ◌==◌, List, [], ◌∷◌, length, flat_map, All, Bool, true, false, IsTrue, Option, Some, None, IsSome}
use Rattle.std.specs.Cmp.Lexicographic.{pointwise}
use Rattle.std.specs.Map.{lookup}
use mathlib.Core.Former.{Count}
use Rattle.el_base.specs.Limits.{max_dimensions, max_elements}
use Rattle.el_base.specs.declared.ty.Ty.{Ty}
use Rattle.c_ast.specs.declared.tree.Tree.{Tree}
use Rattle.c_ast.specs.declared.tree.Param.{Param}
use Rattle.c_ast.specs.declared.tree.Target.{Target}
use Rattle.c_ast.specs.declared.tree.Expr.{Expr}
use Rattle.c_ast.specs.declared.tree.ExprKind.{ExprKind, Row_of-Expr, end_of-Expr, more_of-Expr}
use Rattle.c_ast.specs.declared.tree.ExprKind as expr
use Rattle.c_ast.specs.declared.tree.Stmt.{Stmt}
use Rattle.c_ast.specs.declared.tree.StmtKind.{StmtKind, Row_of-Stmt, end_of-Stmt, more_of-Stmt, Held-StmtKind-If-2}
use Rattle.c_ast.specs.declared.tree.StmtKind as stmt

-- ---- declarations in force at a place

-- what a name stands for: a scalar, or an array with so many dimensions
pub data Sort : Type 0 where
  a_scalar : Sort
  an_array : ℕ → Sort
  -- a helper with so many parameters
  a_helper : ℕ → Sort

-- the names of each scope in force, the innermost scope first
abbrev pub Names : Type 0
Names = List (List (List ℕ × Sort))

abbrev pub sort_in : List (List ℕ × Sort) → List ℕ → Option Sort
sort_in scope x = lookup (pointwise ◌==◌ x) scope

-- what a name stands for there: its innermost declaration
abbrev pub sort_of : Names → List ℕ → Option Sort
sort_of names x = sort_in (flat_map (λ s. s) names) x

-- after a declarator of a scalar: the scope of its name begins before its value
abbrev pub with_name : List ℕ → Names → Names
with_name x [] = ((x, a_scalar) ∷ []) ∷ []
with_name x (s ∷ ss) = ((x, a_scalar) ∷ s) ∷ ss

-- ---- the rules

-- 21: a name is not yet declared in the innermost scope
abbrev pub IsNew : Names → List ℕ → Type 0
IsNew [] x = Unit {0}
IsNew (s ∷ ss) x = sort_in s x ≡ None

-- a name is used with so many indices
pub record IsUsable (names : Names) (x : List ℕ) (indices : ℕ) : Type 0 where
  pub rule_20_declared : IsSome (sort_of names x)
  pub rule_22_scalar_has_none : sort_of names x ≡ Some a_scalar → indices ≡ 0
  pub rule_23_array_has_some : (n : ℕ) → sort_of names x ≡ Some (an_array n) → 0 < indices
  pub rule_24_one_for_each : (n : ℕ) → sort_of names x ≡ Some (an_array n) → 0 < indices → indices ≡ n
  pub rule_23_no_helper : (n : ℕ) → sort_of names x ≡ Some (a_helper n) → ⊥

-- a name is called with so many arguments
pub record IsCallable (names : Names) (x : List ℕ) (arguments : ℕ) : Type 0 where
  pub rule_20_declared : IsSome (sort_of names x)
  pub rule_17_no_scalar : sort_of names x ≡ Some a_scalar → ⊥
  pub rule_17_no_array : (n : ℕ) → sort_of names x ≡ Some (an_array n) → ⊥
  pub rule_29_one_for_each : (n : ℕ) → sort_of names x ≡ Some (a_helper n) → arguments ≡ n

-- 26: a value is returned exactly where there is a result
abbrev pub IsReturnable : Option Ty → Option Expr → Type 0
IsReturnable None None = Unit {0}
IsReturnable (Some t) (Some e) = Unit {0}
IsReturnable None (Some e) = ⊥
IsReturnable (Some t) None = ⊥

-- ---- expressions

abbrev pub row_length : {n : Count} → Row_of-Expr n → ℕ
row_length end_of-Expr = 0
row_length (more_of-Expr e at row) = 1 + row_length row

abbrev mutual
  pub TypingKind : Names → ExprKind → Type 0
  TypingKind names (expr.Number n t) = Unit {0}
  TypingKind names (expr.Name x) = IsUsable names x 0
  TypingKind names (expr.Element' x n row) = IsUsable names x (row_length row) × TypingRow names row
  TypingKind names (expr.Call' x n row) = IsCallable names x (row_length row) × TypingRow names row
  TypingKind names (expr.Unary' op b (more_of-Expr e at end_of-Expr)) = TypingKind names e
  TypingKind names (expr.Cast' t b (more_of-Expr e at end_of-Expr)) = TypingKind names e
  TypingKind names (expr.Binary' op b (more_of-Expr e at end_of-Expr) b2 (more_of-Expr e2 at2 end_of-Expr)) = TypingKind names e × TypingKind names e2
  TypingKind names (expr.Choose' b (more_of-Expr e at end_of-Expr) b2 (more_of-Expr e2 at2 end_of-Expr) b3 (more_of-Expr e3 at3 end_of-Expr)) =
      TypingKind names e × TypingKind names e2 × TypingKind names e3

  pub TypingRow : Names → {n : Count} → Row_of-Expr n → Type 0
  TypingRow names end_of-Expr = Unit {0}
  TypingRow names (more_of-Expr e at row) = TypingKind names e × TypingRow names row

abbrev pub TypingExpr : Names → Expr → Type 0
TypingExpr names e = TypingKind names e.kind

abbrev pub TypingOption : Names → Option Expr → Type 0
TypingOption names None = Unit {0}
TypingOption names (Some e) = TypingExpr names e

abbrev pub TypingTarget : Names → Target → Type 0
TypingTarget names t = IsUsable names t.name (length t.indices) × All (TypingExpr names) t.indices

-- ---- statements

-- the names in force after a statement, and after several
abbrev pub names_after : Names → StmtKind → Names
names_after names (stmt.Declare x t e) = with_name x names
names_after names s = names

abbrev pub names_after_row : {n : Count} → Names → Row_of-Stmt n → Names
names_after_row names end_of-Stmt = names
names_after_row names (more_of-Stmt s at row) = names_after_row (names_after names s) row

abbrev mutual
  -- a statement of a kernel with a result, in a loop or not: 27 asks a loop around break and continue; the parts of if, while, do and for are blocks of their own (6.8.4p3, 6.8.5p5)
  pub TypingStmt : StmtKind → Option Ty → Bool → Names → Type 0
  TypingStmt (stmt.Block' n row) r loop names = TypingStmts row r loop ([] ∷ names)
  TypingStmt (stmt.Declare x t e) r loop names = IsNew names x × TypingOption (with_name x names) e
  TypingStmt (stmt.Assign target op e) r loop names = TypingTarget names target × TypingExpr names e
  TypingStmt (stmt.Step target up) r loop names = TypingTarget names target
  TypingStmt (stmt.If' e b (more_of-Stmt s at end_of-Stmt) o) r loop names = TypingExpr names e × TypingStmt s r loop ([] ∷ names) × TypingHeld o r loop names
  TypingStmt (stmt.While' e b (more_of-Stmt s at end_of-Stmt)) r loop names = TypingExpr names e × TypingStmt s r true ([] ∷ names)
  TypingStmt (stmt.DoWhile' b (more_of-Stmt s at end_of-Stmt) e) r loop names = TypingStmt s r true ([] ∷ names) × TypingExpr names e
  TypingStmt (stmt.For' n row e o b (more_of-Stmt s at end_of-Stmt)) r loop names =
      TypingStmts row r false ([] ∷ names) × TypingOption (names_after_row ([] ∷ names) row) e
      × TypingHeld o r false (names_after_row ([] ∷ names) row) × TypingStmt s r true ([] ∷ names_after_row ([] ∷ names) row)
  TypingStmt stmt.Break r loop names = IsTrue loop
  TypingStmt stmt.Continue r loop names = IsTrue loop
  TypingStmt (stmt.Return e) r loop names = IsReturnable r e × TypingOption names e
  TypingStmt stmt.Empty r loop names = Unit {0}

  pub TypingHeld : Held-StmtKind-If-2 → Option Ty → Bool → Names → Type 0
  TypingHeld stmt.None' r loop names = Unit {0}
  TypingHeld (stmt.Some' b (more_of-Stmt s at end_of-Stmt)) r loop names = TypingStmt s r loop ([] ∷ names)

  pub TypingStmts : {n : Count} → Row_of-Stmt n → Option Ty → Bool → Names → Type 0
  TypingStmts end_of-Stmt r loop names = Unit {0}
  TypingStmts (more_of-Stmt s at row) r loop names = TypingStmt s r loop names × TypingStmts row r loop (names_after names s)

-- the statements of a list, one after another
abbrev pub TypingList : List Stmt → Option Ty → Bool → Names → Type 0
TypingList [] r loop names = Unit {0}
TypingList (s ∷ ss) r loop names = TypingStmt s.kind r loop names × TypingList ss r loop (names_after names s.kind)

-- ---- parameters and kernels

abbrev pub sort_of_dims : List ℕ → Sort
sort_of_dims [] = a_scalar
sort_of_dims (d ∷ ds) = an_array (length (d ∷ ds))

-- the elements of a parameter: none of a scalar, and of an array the product of its dimensions
abbrev pub product_of : List ℕ → ℕ
product_of [] = 1
product_of (d ∷ ds) = d * product_of ds

abbrev pub elements_of : List ℕ → ℕ
elements_of [] = 0
elements_of (d ∷ ds) = product_of (d ∷ ds)

-- a parameter after others, of which the arrays have so many elements
pub record IsParameter (scope : List (List ℕ × Sort)) (before : ℕ) (p : Param) : Type 0 where
  pub rule_21_new : sort_in scope p.name ≡ None
  pub rule_24_dimensions : length p.dims ≤ max_dimensions
  pub rule_25_no_zero : All (λ d. 0 < d) p.dims
  pub rule_25_elements : before + elements_of p.dims ≤ max_elements

abbrev pub TypingParams : List Param → List (List ℕ × Sort) → ℕ → Type 0
TypingParams [] scope before = Unit {0}
TypingParams (p ∷ ps) scope before = IsParameter scope before p × TypingParams ps ((p.name, sort_of_dims p.dims) ∷ scope) (before + elements_of p.dims)

abbrev pub scope_of : List Param → List (List ℕ × Sort) → List (List ℕ × Sort)
scope_of [] scope = scope
scope_of (p ∷ ps) scope = scope_of ps ((p.name, sort_of_dims p.dims) ∷ scope)

-- a tree keeps all rules; its parameters share the scope of its block
pub record Typing (tree : Tree) : Type 0 where
  pub params_keep : TypingParams tree.params [] 0
  pub body_keeps : TypingList tree.body tree.result false (scope_of tree.params [] ∷ [])
