-- Programs of helpers and a kernel (ISO/IEC 9899:1999 6.5.2.2, 6.9.1): how many nodes they have, and which rules they keep.
use Rattle.std.specs.Prelude.{◌≡◌, ℕ, ◌+◌, List, [], ◌∷◌, length, sum_by, All, Bool, true, false, IsTrue, Option, Some, None}
use mathlib.Core.Former.{Count}
use Rattle.c_ast.specs.declared.tree.Binary.{Binary}
use Rattle.c_ast.specs.declared.tree.Binary.TheVariants.{Both, Either}
use Rattle.c_ast.specs.declared.tree.Expr.{Expr}
use Rattle.c_ast.specs.declared.tree.ExprKind.{ExprKind, Row_of-Expr, end_of-Expr, more_of-Expr}
use Rattle.c_ast.specs.declared.tree.ExprKind as expr
use Rattle.c_ast.specs.declared.tree.Stmt.{Stmt}
use Rattle.c_ast.specs.declared.tree.StmtKind.{StmtKind, Row_of-Stmt, end_of-Stmt, more_of-Stmt, Held-StmtKind-If-2}
use Rattle.c_ast.specs.declared.tree.StmtKind as stmt
use Rattle.c_ast.specs.declared.tree.Helper.{Helper}
use Rattle.c_ast.specs.declared.tree.Program.{Program}
use Rattle.c_ast.specs.Nodes.{params_nodes, stmts_nodes, expr_nodes, tree_nodes}
use Rattle.c_ast.specs.Typing.{Sort, a_helper, sort_in, scope_of, TypingParams, TypingList, TypingExpr, names_after, Names}

-- ---- nodes

-- a helper, its parameters, its block and what the block holds, and its value: the return is part of the helper
abbrev pub helper_nodes : Helper → ℕ
helper_nodes h = 1 + params_nodes h.params + (1 + stmts_nodes h.body + expr_nodes h.value)

abbrev pub helpers_nodes : List Helper → ℕ
helpers_nodes hs = sum_by helper_nodes hs

abbrev pub program_nodes : Program → ℕ
program_nodes p = helpers_nodes p.helpers + tree_nodes p.kernel

-- ---- 28: a call stands where it is always evaluated, once for each time that its statement is

abbrev pub joins_both : Binary → Bool
joins_both Both = true
joins_both Either = true
joins_both op = false

abbrev pub where_whole : Bool → Bool → Bool
where_whole true may = false
where_whole false may = may

abbrev mutual
  -- where calls may stand or not
  pub CallsStand : Bool → ExprKind → Type 0
  CallsStand may (expr.Number n t) = Unit {0}
  CallsStand may (expr.Name x) = Unit {0}
  CallsStand may (expr.Element' x n row) = CallsStandIn may row
  CallsStand may (expr.Call' x n row) = IsTrue may × CallsStandIn may row
  CallsStand may (expr.Unary' op b (more_of-Expr e at end_of-Expr)) = CallsStand may e
  CallsStand may (expr.Cast' t b (more_of-Expr e at end_of-Expr)) = CallsStand may e
  CallsStand may (expr.Binary' op b (more_of-Expr e at end_of-Expr) b2 (more_of-Expr e2 at2 end_of-Expr)) = CallsStand may e × CallsStand (where_whole (joins_both op) may) e2
  CallsStand may (expr.Choose' b (more_of-Expr e at end_of-Expr) b2 (more_of-Expr e2 at2 end_of-Expr) b3 (more_of-Expr e3 at3 end_of-Expr)) =
      CallsStand may e × CallsStand false e2 × CallsStand false e3

  pub CallsStandIn : Bool → {n : Count} → Row_of-Expr n → Type 0
  CallsStandIn may end_of-Expr = Unit {0}
  CallsStandIn may (more_of-Expr e at row) = CallsStand may e × CallsStandIn may row

abbrev pub StandsAt : Bool → Expr → Type 0
StandsAt may e = CallsStand may e.kind

abbrev pub StandsIfAny : Bool → Option Expr → Type 0
StandsIfAny may None = Unit {0}
StandsIfAny may (Some e) = StandsAt may e

abbrev mutual
  pub CallsStandStmt : StmtKind → Type 0
  CallsStandStmt (stmt.Block' n row) = CallsStandStmts row
  CallsStandStmt (stmt.Declare x t e) = StandsIfAny true e
  CallsStandStmt (stmt.Assign target op e) = All (StandsAt true) target.indices × StandsAt true e
  CallsStandStmt (stmt.Step target up) = All (StandsAt true) target.indices
  CallsStandStmt (stmt.If' e b (more_of-Stmt s at end_of-Stmt) o) = StandsAt true e × CallsStandStmt s × CallsStandHeld o
  CallsStandStmt (stmt.While' e b (more_of-Stmt s at end_of-Stmt)) = StandsAt false e × CallsStandStmt s
  CallsStandStmt (stmt.DoWhile' b (more_of-Stmt s at end_of-Stmt) e) = CallsStandStmt s × StandsAt false e
  CallsStandStmt (stmt.For' n row e o b (more_of-Stmt s at end_of-Stmt)) = CallsStandStmts row × StandsIfAny false e × CallsStandHeld o × CallsStandStmt s
  CallsStandStmt stmt.Break = Unit {0}
  CallsStandStmt stmt.Continue = Unit {0}
  CallsStandStmt (stmt.Return e) = StandsIfAny true e
  CallsStandStmt stmt.Empty = Unit {0}

  pub CallsStandHeld : Held-StmtKind-If-2 → Type 0
  CallsStandHeld stmt.None' = Unit {0}
  CallsStandHeld (stmt.Some' b (more_of-Stmt s at end_of-Stmt)) = CallsStandStmt s

  pub CallsStandStmts : {n : Count} → Row_of-Stmt n → Type 0
  CallsStandStmts end_of-Stmt = Unit {0}
  CallsStandStmts (more_of-Stmt s at row) = CallsStandStmt s × CallsStandStmts row

-- ---- typing

-- the names in force after several statements
abbrev pub names_after_list : Names → List Stmt → Names
names_after_list names [] = names
names_after_list names (s ∷ ss) = names_after_list (names_after names s.kind) ss

-- behind helpers of these names; no statement of a helper returns, so 26 asks nothing
pub record TypingHelper (known : List (List ℕ × Sort)) (h : Helper) : Type 0 where
  pub rule_21_new : sort_in known h.name ≡ None
  pub params_keep : TypingParams h.params [] 0
  pub body_keeps : TypingList h.body (Some h.result) false (scope_of h.params [] ∷ known ∷ [])
  pub value_keeps : TypingExpr (names_after_list (scope_of h.params [] ∷ known ∷ []) h.body) h.value
  pub rule_28_body : All (λ s. CallsStandStmt s.kind) h.body
  pub rule_28_value : StandsAt true h.value

abbrev pub with_helper : Helper → List (List ℕ × Sort) → List (List ℕ × Sort)
with_helper h known = (h.name, a_helper (length h.params)) ∷ known

abbrev pub TypingHelpers : List (List ℕ × Sort) → List Helper → Type 0
TypingHelpers known [] = Unit {0}
TypingHelpers known (h ∷ hs) = TypingHelper known h × TypingHelpers (with_helper h known) hs

abbrev pub known_after : List (List ℕ × Sort) → List Helper → List (List ℕ × Sort)
known_after known [] = known
known_after known (h ∷ hs) = known_after (with_helper h known) hs

pub record TypingProgram (p : Program) : Type 0 where
  pub helpers_keep : TypingHelpers [] p.helpers
  pub rule_21_new : sort_in (known_after [] p.helpers) p.kernel.name ≡ None
  pub params_keep : TypingParams p.kernel.params [] 0
  pub body_keeps : TypingList p.kernel.body p.kernel.result false (scope_of p.kernel.params [] ∷ known_after [] p.helpers ∷ [])
  pub rule_28 : All (λ s. CallsStandStmt s.kind) p.kernel.body
