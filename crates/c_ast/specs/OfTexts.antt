-- What the syntax tree of a program that was read from a text keeps besides the rules on names: its numbers fit their types, and a helper has scalars alone and returns nothing before its value.
use Rattle.std.specs.Prelude.{◌≡◌, [], All, Bool, false, IsTrue}
use mathlib.Core.Former.{Count}
use Rattle.c_ast.specs.declared.tree.Helper.{Helper}
use Rattle.c_ast.specs.declared.tree.Program.{Program}
use Rattle.c_ast.specs.declared.tree.StmtKind.{StmtKind, Row_of-Stmt, end_of-Stmt, more_of-Stmt, Held-StmtKind-If-2}
use Rattle.c_ast.specs.declared.tree.StmtKind as stmt
use Rattle.c_ast.specs.Constants.{NumbersFitExpr, NumbersFitStmt, NumbersFit}

abbrev mutual
  -- a statement that may return, or may not
  pub ReturnsWhere : Bool → StmtKind → Type 0
  ReturnsWhere may (stmt.Block' n row) = RowReturnsWhere may row
  ReturnsWhere may (stmt.Declare x t e) = Unit {0}
  ReturnsWhere may (stmt.Assign target op e) = Unit {0}
  ReturnsWhere may (stmt.Step target up) = Unit {0}
  ReturnsWhere may (stmt.If' e b (more_of-Stmt s at end_of-Stmt) o) = ReturnsWhere may s × HeldReturnsWhere may o
  ReturnsWhere may (stmt.While' e b (more_of-Stmt s at end_of-Stmt)) = ReturnsWhere may s
  ReturnsWhere may (stmt.DoWhile' b (more_of-Stmt s at end_of-Stmt) e) = ReturnsWhere may s
  ReturnsWhere may (stmt.For' n row e o b (more_of-Stmt s at end_of-Stmt)) = RowReturnsWhere may row × HeldReturnsWhere may o × ReturnsWhere may s
  ReturnsWhere may stmt.Break = Unit {0}
  ReturnsWhere may stmt.Continue = Unit {0}
  ReturnsWhere may (stmt.Return e) = IsTrue may
  ReturnsWhere may stmt.Empty = Unit {0}

  pub HeldReturnsWhere : Bool → Held-StmtKind-If-2 → Type 0
  HeldReturnsWhere may stmt.None' = Unit {0}
  HeldReturnsWhere may (stmt.Some' b (more_of-Stmt s at end_of-Stmt)) = ReturnsWhere may s

  pub RowReturnsWhere : Bool → {n : Count} → Row_of-Stmt n → Type 0
  RowReturnsWhere may end_of-Stmt = Unit {0}
  RowReturnsWhere may (more_of-Stmt s at row) = ReturnsWhere may s × RowReturnsWhere may row

pub record IsHelperOfText (h : Helper) : Type 0 where
  pub scalars : All (λ q. q.dims ≡ []) h.params
  pub returns_nothing : All (λ s. ReturnsWhere false s.kind) h.body
  pub body_fits : All (λ s. NumbersFitStmt s.kind) h.body
  pub value_fits : NumbersFitExpr h.value

pub record IsProgramOfText (p : Program) : Type 0 where
  pub helpers : All IsHelperOfText p.helpers
  pub kernel : NumbersFit p.kernel
