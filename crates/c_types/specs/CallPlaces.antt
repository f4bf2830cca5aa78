-- Where calls stand that are not evaluated exactly once for each time that their statement is (rule 28): the places of their names.
use Rattle.std.specs.Prelude.{ℕ, List, [], ◌∷◌, ◌++◌, length, Bool, true, false, Option, Some, None}
use mathlib.Core.Former.{Count}
use Rattle.el_base.specs.declared.span.Span.{Span}
use Rattle.c_ast.specs.declared.tree.Target.{Target}
use Rattle.c_ast.specs.declared.tree.Expr.{Expr}
use Rattle.c_ast.specs.declared.tree.ExprKind.{ExprKind, Row_of-Expr, end_of-Expr, more_of-Expr}
use Rattle.c_ast.specs.declared.tree.ExprKind as expr
use Rattle.c_ast.specs.declared.tree.Stmt.{Stmt}
use Rattle.c_ast.specs.declared.tree.StmtKind.{StmtKind, Row_of-Stmt, end_of-Stmt, more_of-Stmt, Held-StmtKind-If-2}
use Rattle.c_ast.specs.declared.tree.StmtKind as stmt
use Rattle.c_ast.specs.declared.tree.Helper.{Helper}
use Rattle.c_ast.specs.declared.tree.Program.{Program}
use Rattle.c_ast.specs.Programs.{joins_both, where_whole}
use Rattle.c_types.specs.declared.fault.Rule.TheVariants as rule
use Rattle.c_types.specs.declared.fault.Fault.{Fault}
use Rattle.c_types.specs.Places.{first_bytes}
use Rattle.c_types.specs.Faults.{unless}

-- ---- expressions

-- a call in a place that begins with the called name
abbrev pub call_places : Bool → List ℕ → Span → List Fault
call_places may x at = unless may rule.CallPlace (first_bytes (length x) at)

abbrev mutual
  -- in an expression that stands where calls may stand or not
  pub kind_places : Bool → ExprKind → Span → List Fault
  kind_places may (expr.Number n t) at = []
  kind_places may (expr.Name x) at = []
  kind_places may (expr.Element' x n row) at = row_places may row
  kind_places may (expr.Call' x n row) at = call_places may x at ++ row_places may row
  kind_places may (expr.Unary' op b (more_of-Expr e s end_of-Expr)) at = kind_places may e s
  kind_places may (expr.Cast' t b (more_of-Expr e s end_of-Expr)) at = kind_places may e s
  kind_places may (expr.Binary' op b (more_of-Expr e s end_of-Expr) b2 (more_of-Expr e2 s2 end_of-Expr)) at = kind_places may e s ++ kind_places (where_whole (joins_both op) may) e2 s2
  kind_places may (expr.Choose' b (more_of-Expr e s end_of-Expr) b2 (more_of-Expr e2 s2 end_of-Expr) b3 (more_of-Expr e3 s3 end_of-Expr)) at =
      kind_places may e s ++ (kind_places false e2 s2 ++ kind_places false e3 s3)

  pub row_places : Bool → {n : Count} → Row_of-Expr n → List Fault
  row_places may end_of-Expr = []
  row_places may (more_of-Expr e at row) = kind_places may e at ++ row_places may row

abbrev pub expr_places : Bool → Expr → List Fault
expr_places may e = kind_places may e.kind e.at

abbrev pub exprs_places : Bool → List Expr → List Fault
exprs_places may [] = []
exprs_places may (e ∷ es) = expr_places may e ++ exprs_places may es

abbrev pub option_places : Bool → Option Expr → List Fault
option_places may None = []
option_places may (Some e) = expr_places may e

abbrev pub target_places : Target → List Fault
target_places t = exprs_places true t.indices

-- ---- statements

abbrev mutual
  -- the conditions of while, do and for are evaluated again and again
  pub act_places : StmtKind → List Fault
  act_places (stmt.Block' n row) = acts_places row
  act_places (stmt.Declare x t e) = option_places true e
  act_places (stmt.Assign target op e) = target_places target ++ expr_places true e
  act_places (stmt.Step target up) = target_places target
  act_places (stmt.If' e b (more_of-Stmt s a end_of-Stmt) o) = expr_places true e ++ (act_places s ++ held_places o)
  act_places (stmt.While' e b (more_of-Stmt s a end_of-Stmt)) = expr_places false e ++ act_places s
  act_places (stmt.DoWhile' b (more_of-Stmt s a end_of-Stmt) e) = act_places s ++ expr_places false e
  act_places (stmt.For' n row e o b (more_of-Stmt s a end_of-Stmt)) = acts_places row ++ (option_places false e ++ (held_places o ++ act_places s))
  act_places stmt.Break = []
  act_places stmt.Continue = []
  act_places (stmt.Return e) = option_places true e
  act_places stmt.Empty = []

  pub held_places : Held-StmtKind-If-2 → List Fault
  held_places stmt.None' = []
  held_places (stmt.Some' b (more_of-Stmt s a end_of-Stmt)) = act_places s

  pub acts_places : {n : Count} → Row_of-Stmt n → List Fault
  acts_places end_of-Stmt = []
  acts_places (more_of-Stmt s at row) = act_places s ++ acts_places row

abbrev pub stmt_places : Stmt → List Fault
stmt_places s = act_places s.kind

-- a statement inside a statement, which may be absent
abbrev pub inner_places : Option Stmt → List Fault
inner_places None = []
inner_places (Some s) = stmt_places s

-- statements one after another
abbrev pub stmts_places : List Stmt → List Fault
stmts_places [] = []
stmts_places (s ∷ ss) = stmt_places s ++ stmts_places ss

-- ---- programs

abbrev pub helper_places : Helper → List Fault
helper_places h = stmts_places h.body ++ expr_places true h.value

abbrev pub helpers_places : List Helper → List Fault
helpers_places [] = []
helpers_places (h ∷ hs) = helper_places h ++ helpers_places hs

abbrev pub program_places : Program → List Fault
program_places p = helpers_places p.helpers ++ stmts_places p.kernel.body
