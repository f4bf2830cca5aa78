-- A variant of a tree as a row holds it is that variant over the list of the row's items.
use Rattle.std.proofs.Common.{◌≡◌, ℕ, List, [], ◌∷◌, Option, Some, None, refl, ap, ◌∙◌, sym}
use mathlib.Core.Former.{Count, list_count, this}
use denote.Hole.Carrier.{shown, roll, out}
use Rattle.el_base.specs.declared.span.Span.{Span}
use Rattle.c_ast.specs.declared.tree.Expr.{Expr}
use Rattle.c_ast.specs.declared.tree.ExprKind.{Row_of-Expr, roll-out-ExprKind, items-the_row-Expr, items_shown-the_row-Expr-0}
use Rattle.c_ast.specs.declared.tree.ExprKind as raw
use Rattle.c_ast.specs.declared.tree.ExprKind.TheVariants as expr
use Rattle.c_ast.specs.declared.tree.ExprKind.TheBlock.{shown-the_row-Expr-0}
use Rattle.c_ast.specs.declared.tree.Stmt.{Stmt}
use Rattle.c_ast.specs.declared.tree.StmtKind.{StmtKind, Row_of-Stmt, end_of-Stmt, more_of-Stmt, Held-StmtKind-If-2, roll-out-StmtKind, items-the_row-Stmt, items_shown-the_row-Stmt-0, view-StmtKind-If-2, backs-StmtKind-If-2}
use Rattle.c_ast.specs.declared.tree.StmtKind as raw_stmt
use Rattle.c_ast.specs.declared.tree.StmtKind.TheVariants as stmt
use Rattle.c_ast.specs.declared.tree.StmtKind.TheBlock.{hidden-the_row-Stmt-0, shown-the_row-Stmt-0, shown-the_row-Stmt-1}
use Rattle.c_meaning.proofs.TreeRows.{expr_rows, stmt_rows}

-- the expressions of a row, and the statements of a row
abbrev pub exprs_of : {n : Count} → Row_of-Expr n → List Expr
exprs_of {n} row = items-the_row-Expr n row

abbrev pub stmts_of : {n : Count} → Row_of-Stmt n → List Stmt
stmts_of {n} row = items-the_row-Stmt n row

pub element_is : (x : List ℕ) (n : List (Unit {0})) (row : Row_of-Expr (list_count (this {0}) n 0)) → expr.Element x (exprs_of row) ≡ raw.Element' x n row
unfolding expr_rows shown-the_row-Expr-0 raw.out-ExprKind raw.roll-ExprKind roll out
element_is x n row = ap (λ (es : List Expr). expr.Element x es) (sym (items_shown-the_row-Expr-0 n row)) ∙ roll-out-ExprKind (raw.Element' x n row)

pub block_is : (n : List (Unit {0})) (row : Row_of-Stmt (list_count (this {0}) n 0)) → stmt.Block (stmts_of row) ≡ raw_stmt.Block' n row
unfolding stmt_rows shown-the_row-Stmt-0 raw_stmt.out-StmtKind raw_stmt.roll-StmtKind roll out
block_is n row = ap (λ (ss : List Stmt). stmt.Block ss) (sym (items_shown-the_row-Stmt-0 n row)) ∙ roll-out-StmtKind (raw_stmt.Block' n row)

-- the statement that is held, if any
abbrev pub held_of : Held-StmtKind-If-2 → Option Stmt
held_of raw_stmt.None' = None
held_of (raw_stmt.Some' b (more_of-Stmt k at end_of-Stmt)) = Some (record { kind = k; at = at })

held_view : (o : Held-StmtKind-If-2) → held_of o ≡ view-StmtKind-If-2 o
unfolding stmt_rows shown shown-the_row-Stmt-0 shown-the_row-Stmt-1
held_view raw_stmt.None' = refl
held_view (raw_stmt.Some' b (more_of-Stmt k at end_of-Stmt)) = refl

pub if_is : (e : Expr) (b : _) (k : StmtKind) (at : Span) (o : Held-StmtKind-If-2) → stmt.If e (record { kind = k; at = at }) (held_of o) ≡ raw_stmt.If' e b (more_of-Stmt k at end_of-Stmt) o
if_is e b k at o = unfold stmt_rows in ap (λ (p : Option Stmt). stmt.If e (record { kind = k; at = at }) p) (held_view o) ∙ ap (λ h. raw_stmt.If' e b (more_of-Stmt k at end_of-Stmt) h) (backs-StmtKind-If-2 o)

pub for_is : (n : List (Unit {0})) (row : Row_of-Stmt (list_count (this {0}) n 0)) (e : Option Expr) (o : Held-StmtKind-If-2) (b : _) (k : StmtKind) (at : Span)
    → stmt.For (stmts_of row) e (held_of o) (record { kind = k; at = at }) ≡ raw_stmt.For' n row e o b (more_of-Stmt k at end_of-Stmt)
unfolding stmt_rows shown shown-the_row-Stmt-0 shown-the_row-Stmt-1 raw_stmt.out-StmtKind raw_stmt.roll-StmtKind roll out
for_is n row e o b k at =
    ap (λ (p : Option Stmt). stmt.For (stmts_of row) e p (record { kind = k; at = at })) (held_view o)
    ∙ ap (λ (ss : List Stmt). stmt.For ss e (view-StmtKind-If-2 o) (record { kind = k; at = at })) (sym (items_shown-the_row-Stmt-0 n row))
    ∙ roll-out-StmtKind (raw_stmt.For' n row e o b (more_of-Stmt k at end_of-Stmt))

-- the items of the row that holds a list
pub items_are : (ss : List Stmt) → stmts_of (hidden-the_row-Stmt-0 ss) ≡ ss
unfolding stmt_rows
items_are [] = refl
items_are (s ∷ ss) = ap (λ us. s ∷ us) (items_are ss)
