-- The numbers of tokens, and of a syntax tree, lie in the ranges of their types, as the rules of constants make them (ISO/IEC 9899:1999 6.4.4.1p5).
use Rattle.std.specs.Prelude.{All, pos, Option, Some, None}
use mathlib.Core.Former.{Count}
use Rattle.el_base.specs.Numbers.{IsInRange}
use Rattle.c_ast.specs.declared.token.Token.{Token}
use Rattle.c_ast.specs.declared.token.Word.{Word}
use Rattle.c_ast.specs.declared.token.Word.TheVariants as word
use Rattle.c_ast.specs.declared.tree.Tree.{Tree}
use Rattle.c_ast.specs.declared.tree.Target.{Target}
use Rattle.c_ast.specs.declared.tree.Expr.{Expr}
use Rattle.c_ast.specs.declared.tree.ExprKind.{ExprKind, Row_of-Expr, end_of-Expr, more_of-Expr}
use Rattle.c_ast.specs.declared.tree.ExprKind as expr
use Rattle.c_ast.specs.declared.tree.StmtKind.{StmtKind, Row_of-Stmt, end_of-Stmt, more_of-Stmt, Held-StmtKind-If-2}
use Rattle.c_ast.specs.declared.tree.StmtKind as stmt

-- ---- tokens

abbrev pub WordFits : Word → Type 0
WordFits (word.Name x) = Unit {0}
WordFits (word.Number n t) = IsInRange t (pos n)
WordFits (word.Key k) = Unit {0}
WordFits (word.Mark m) = Unit {0}

-- the value of a number token lies in its type
abbrev pub NumberFits : Token → Type 0
NumberFits t = WordFits t.word

-- ---- expressions

abbrev mutual
  pub NumbersFitKind : ExprKind → Type 0
  NumbersFitKind (expr.Number n t) = IsInRange t (pos n)
  NumbersFitKind (expr.Name x) = Unit {0}
  NumbersFitKind (expr.Element' x n row) = NumbersFitRow row
  NumbersFitKind (expr.Call' x n row) = NumbersFitRow row
  NumbersFitKind (expr.Unary' op b (more_of-Expr e at end_of-Expr)) = NumbersFitKind e
  NumbersFitKind (expr.Cast' t b (more_of-Expr e at end_of-Expr)) = NumbersFitKind e
  NumbersFitKind (expr.Binary' op b (more_of-Expr e at end_of-Expr) b2 (more_of-Expr e2 at2 end_of-Expr)) = NumbersFitKind e × NumbersFitKind e2
  NumbersFitKind (expr.Choose' b (more_of-Expr e at end_of-Expr) b2 (more_of-Expr e2 at2 end_of-Expr) b3 (more_of-Expr e3 at3 end_of-Expr)) =
      NumbersFitKind e × NumbersFitKind e2 × NumbersFitKind e3

  pub NumbersFitRow : {n : Count} → Row_of-Expr n → Type 0
  NumbersFitRow end_of-Expr = Unit {0}
  NumbersFitRow (more_of-Expr e at row) = NumbersFitKind e × NumbersFitRow row

abbrev pub NumbersFitExpr : Expr → Type 0
NumbersFitExpr e = NumbersFitKind e.kind

abbrev pub NumbersFitOption : Option Expr → Type 0
NumbersFitOption None = Unit {0}
NumbersFitOption (Some e) = NumbersFitExpr e

abbrev pub NumbersFitTarget : Target → Type 0
NumbersFitTarget t = All NumbersFitExpr t.indices

-- ---- statements

abbrev mutual
  pub NumbersFitStmt : StmtKind → Type 0
  NumbersFitStmt (stmt.Block' n row) = NumbersFitStmts row
  NumbersFitStmt (stmt.Declare x t e) = NumbersFitOption e
  NumbersFitStmt (stmt.Assign target op e) = NumbersFitTarget target × NumbersFitExpr e
  NumbersFitStmt (stmt.Step target up) = NumbersFitTarget target
  NumbersFitStmt (stmt.If' e b (more_of-Stmt s at end_of-Stmt) o) = NumbersFitExpr e × NumbersFitStmt s × NumbersFitHeld o
  NumbersFitStmt (stmt.While' e b (more_of-Stmt s at end_of-Stmt)) = NumbersFitExpr e × NumbersFitStmt s
  NumbersFitStmt (stmt.DoWhile' b (more_of-Stmt s at end_of-Stmt) e) = NumbersFitStmt s × NumbersFitExpr e
  NumbersFitStmt (stmt.For' n row e o b (more_of-Stmt s at end_of-Stmt)) = NumbersFitStmts row × NumbersFitOption e × NumbersFitHeld o × NumbersFitStmt s
  NumbersFitStmt stmt.Break = Unit {0}
  NumbersFitStmt stmt.Continue = Unit {0}
  NumbersFitStmt (stmt.Return e) = NumbersFitOption e
  NumbersFitStmt stmt.Empty = Unit {0}

  pub NumbersFitHeld : Held-StmtKind-If-2 → Type 0
  NumbersFitHeld stmt.None' = Unit {0}
  NumbersFitHeld (stmt.Some' b (more_of-Stmt s at end_of-Stmt)) = NumbersFitStmt s

  pub NumbersFitStmts : {n : Count} → Row_of-Stmt n → Type 0
  NumbersFitStmts end_of-Stmt = Unit {0}
  NumbersFitStmts (more_of-Stmt s at row) = NumbersFitStmt s × NumbersFitStmts row

-- ---- kernels

-- each number of a tree lies in the range of its type
abbrev pub NumbersFit : Tree → Type 0
NumbersFit tree = All (λ s. NumbersFitStmt s.kind) tree.body
