-- Nodes of whole trees, by those of their parts.
use Rattle.std.proofs.Common.{◌≡◌, ℕ, ◌+◌, List, Bool, Option, Some, None, ap, ◌∙◌, sym}
use Rattle.std.proofs.lemmas.List.Sums.{sum-map}
use Rattle.el_base.specs.declared.span.Span.{Span}
use Rattle.el_base.specs.declared.ty.Ty.{Ty}
use Rattle.c_ast.specs.Casts.{expr_at, stmt_at}
use Rattle.c_ast.specs.declared.tree.Unary.{Unary}
use Rattle.c_ast.specs.declared.tree.Binary.{Binary}
use Rattle.c_ast.specs.declared.tree.Target.{Target}
use Rattle.c_ast.specs.declared.tree.Expr.{Expr, fold_out-Expr}
use Rattle.c_ast.specs.declared.tree.ExprKind.{ExprKind, fold-ExprKind, fold-roll-ExprKind}
use Rattle.c_ast.specs.declared.tree.ExprKind.TheVariants as expr
use Rattle.c_ast.specs.declared.tree.ExprKind.TheOpen as layer
use Rattle.c_ast.specs.declared.tree.Stmt.{Stmt, fold_out-Stmt}
use Rattle.c_ast.specs.declared.tree.StmtKind.{StmtKind, fold-StmtKind, fold-roll-StmtKind}
use Rattle.c_ast.specs.declared.tree.StmtKind.TheVariants as stmt
use Rattle.c_ast.specs.declared.tree.StmtKind.TheOpen as row
use Rattle.c_ast.specs.Nodes.{expr_step, expr_nodes, exprs_nodes, opt_nodes, target_nodes, stmt_step, stmt_nodes, stmts_nodes, held_nodes}

-- ---- expressions

-- an expression has the nodes of its kind, and that has those of its layer
of_expr : (k l : ExprKind) (s : Span) → l ≡ k → expr_nodes (expr_at k s) ≡ fold-ExprKind ℕ ℕ expr_step (λ e. e.kind) l
of_expr k l s same = fold_out-Expr ℕ ℕ expr_step (λ e. e.kind) (expr_at k s) ∙ ap (fold-ExprKind ℕ ℕ expr_step (λ e. e.kind)) (sym same)

pub expr_number : (n : ℕ) (t : Ty) (s : Span) → expr_nodes (expr_at (expr.Number n t) s) ≡ 1
expr_number n t s = of_expr (expr.Number n t) _ s (expr.rolls-Number n t) ∙ fold-roll-ExprKind ℕ ℕ expr_step (λ e. e.kind) (layer.Number n t)

pub expr_name : (x : List ℕ) (s : Span) → expr_nodes (expr_at (expr.Name x) s) ≡ 1
expr_name x s = of_expr (expr.Name x) _ s (expr.rolls-Name x) ∙ fold-roll-ExprKind ℕ ℕ expr_step (λ e. e.kind) (layer.Name x)

pub expr_element : (x : List ℕ) (es : List Expr) (s : Span) → expr_nodes (expr_at (expr.Element x es) s) ≡ 1 + exprs_nodes es
expr_element x es s = of_expr (expr.Element x es) _ s (expr.rolls-Element x es) ∙ fold-roll-ExprKind ℕ ℕ expr_step (λ e. e.kind) (layer.Element x es) ∙ ap (λ n. 1 + n) (sum-map expr_nodes es)

pub expr_call : (x : List ℕ) (es : List Expr) (s : Span) → expr_nodes (expr_at (expr.Call x es) s) ≡ 1 + exprs_nodes es
expr_call x es s = of_expr (expr.Call x es) _ s (expr.rolls-Call x es) ∙ fold-roll-ExprKind ℕ ℕ expr_step (λ e. e.kind) (layer.Call x es) ∙ ap (λ n. 1 + n) (sum-map expr_nodes es)

pub expr_unary : (op : Unary) (e : Expr) (s : Span) → expr_nodes (expr_at (expr.Unary op e) s) ≡ 1 + expr_nodes e
expr_unary op e s = of_expr (expr.Unary op e) _ s (expr.rolls-Unary op e) ∙ fold-roll-ExprKind ℕ ℕ expr_step (λ e. e.kind) (layer.Unary op e)

pub expr_cast : (t : Ty) (e : Expr) (s : Span) → expr_nodes (expr_at (expr.Cast t e) s) ≡ 1 + expr_nodes e
expr_cast t e s = of_expr (expr.Cast t e) _ s (expr.rolls-Cast t e) ∙ fold-roll-ExprKind ℕ ℕ expr_step (λ e. e.kind) (layer.Cast t e)

pub expr_binary : (op : Binary) (a b : Expr) (s : Span) → expr_nodes (expr_at (expr.Binary op a b) s) ≡ 1 + expr_nodes a + expr_nodes b
expr_binary op a b s = of_expr (expr.Binary op a b) _ s (expr.rolls-Binary op a b) ∙ fold-roll-ExprKind ℕ ℕ expr_step (λ e. e.kind) (layer.Binary op a b)

pub expr_choice : (c a b : Expr) (s : Span) → expr_nodes (expr_at (expr.Choose c a b) s) ≡ 1 + expr_nodes c + expr_nodes a + expr_nodes b
expr_choice c a b s = of_expr (expr.Choose c a b) _ s (expr.rolls-Choose c a b) ∙ fold-roll-ExprKind ℕ ℕ expr_step (λ e. e.kind) (layer.Choose c a b)

-- ---- statements

of_stmt : (k l : StmtKind) (s : Span) → l ≡ k → stmt_nodes (stmt_at k s) ≡ fold-StmtKind ℕ ℕ stmt_step (λ x. x.kind) l
of_stmt k l s same = fold_out-Stmt ℕ ℕ stmt_step (λ x. x.kind) (stmt_at k s) ∙ ap (fold-StmtKind ℕ ℕ stmt_step (λ x. x.kind)) (sym same)

pub stmt_block : (ss : List Stmt) (s : Span) → stmt_nodes (stmt_at (stmt.Block ss) s) ≡ 1 + stmts_nodes ss
stmt_block ss s = of_stmt (stmt.Block ss) _ s (stmt.rolls-Block ss) ∙ fold-roll-StmtKind ℕ ℕ stmt_step (λ x. x.kind) (row.Block ss) ∙ ap (λ n. 1 + n) (sum-map stmt_nodes ss)

pub stmt_declaration : (x : List ℕ) (t : Ty) (e : Option Expr) (s : Span) → stmt_nodes (stmt_at (stmt.Declare x t e) s) ≡ 1 + opt_nodes e
stmt_declaration x t e s = of_stmt (stmt.Declare x t e) _ s (stmt.rolls-Declare x t e) ∙ fold-roll-StmtKind ℕ ℕ stmt_step (λ x. x.kind) (row.Declare x t e)

pub stmt_assignment : (t : Target) (op : Option Binary) (e : Expr) (s : Span) → stmt_nodes (stmt_at (stmt.Assign t op e) s) ≡ 1 + target_nodes t + expr_nodes e
stmt_assignment t op e s = of_stmt (stmt.Assign t op e) _ s (stmt.rolls-Assign t op e) ∙ fold-roll-StmtKind ℕ ℕ stmt_step (λ x. x.kind) (row.Assign t op e)

pub stmt_stepping : (t : Target) (up : Bool) (s : Span) → stmt_nodes (stmt_at (stmt.Step t up) s) ≡ 1 + target_nodes t
stmt_stepping t up s = of_stmt (stmt.Step t up) _ s (stmt.rolls-Step t up) ∙ fold-roll-StmtKind ℕ ℕ stmt_step (λ x. x.kind) (row.Step t up)

pub stmt_choice : (e : Expr) (a : Stmt) (o : Option Stmt) (s : Span) → stmt_nodes (stmt_at (stmt.If e a o) s) ≡ 1 + expr_nodes e + stmt_nodes a + held_nodes o
stmt_choice e a None s = of_stmt (stmt.If e a None) _ s (stmt.rolls-If e a None) ∙ fold-roll-StmtKind ℕ ℕ stmt_step (λ x. x.kind) (row.If e a None)
stmt_choice e a (Some i) s = of_stmt (stmt.If e a (Some i)) _ s (stmt.rolls-If e a (Some i)) ∙ fold-roll-StmtKind ℕ ℕ stmt_step (λ x. x.kind) (row.If e a (Some i))

pub stmt_while_loop : (e : Expr) (a : Stmt) (s : Span) → stmt_nodes (stmt_at (stmt.While e a) s) ≡ 1 + expr_nodes e + stmt_nodes a
stmt_while_loop e a s = of_stmt (stmt.While e a) _ s (stmt.rolls-While e a) ∙ fold-roll-StmtKind ℕ ℕ stmt_step (λ x. x.kind) (row.While e a)

pub stmt_do_loop : (a : Stmt) (e : Expr) (s : Span) → stmt_nodes (stmt_at (stmt.DoWhile a e) s) ≡ 1 + stmt_nodes a + expr_nodes e
stmt_do_loop a e s = of_stmt (stmt.DoWhile a e) _ s (stmt.rolls-DoWhile a e) ∙ fold-roll-StmtKind ℕ ℕ stmt_step (λ x. x.kind) (row.DoWhile a e)

pub stmt_for_loop : (ss : List Stmt) (e : Option Expr) (o : Option Stmt) (a : Stmt) (s : Span) → stmt_nodes (stmt_at (stmt.For ss e o a) s) ≡ 1 + stmts_nodes ss + opt_nodes e + held_nodes o + stmt_nodes a
stmt_for_loop ss e None a s = of_stmt (stmt.For ss e None a) _ s (stmt.rolls-For ss e None a) ∙ fold-roll-StmtKind ℕ ℕ stmt_step (λ x. x.kind) (row.For ss e None a) ∙ ap (λ n. 1 + n + opt_nodes e + held_nodes None + stmt_nodes a) (sum-map stmt_nodes ss)
stmt_for_loop ss e (Some i) a s = of_stmt (stmt.For ss e (Some i) a) _ s (stmt.rolls-For ss e (Some i) a) ∙ fold-roll-StmtKind ℕ ℕ stmt_step (λ x. x.kind) (row.For ss e (Some i) a) ∙ ap (λ n. 1 + n + opt_nodes e + held_nodes (Some i) + stmt_nodes a) (sum-map stmt_nodes ss)

pub stmt_leaving : (s : Span) → stmt_nodes (stmt_at (stmt.Break) s) ≡ 1
stmt_leaving s = of_stmt (stmt.Break) _ s (stmt.rolls-Break) ∙ fold-roll-StmtKind ℕ ℕ stmt_step (λ x. x.kind) (row.Break)

pub stmt_continuing : (s : Span) → stmt_nodes (stmt_at (stmt.Continue) s) ≡ 1
stmt_continuing s = of_stmt (stmt.Continue) _ s (stmt.rolls-Continue) ∙ fold-roll-StmtKind ℕ ℕ stmt_step (λ x. x.kind) (row.Continue)

pub stmt_returning : (e : Option Expr) (s : Span) → stmt_nodes (stmt_at (stmt.Return e) s) ≡ 1 + opt_nodes e
stmt_returning e s = of_stmt (stmt.Return e) _ s (stmt.rolls-Return e) ∙ fold-roll-StmtKind ℕ ℕ stmt_step (λ x. x.kind) (row.Return e)

pub stmt_empty : (s : Span) → stmt_nodes (stmt_at (stmt.Empty) s) ≡ 1
stmt_empty s = of_stmt (stmt.Empty) _ s (stmt.rolls-Empty) ∙ fold-roll-StmtKind ℕ ℕ stmt_step (λ x. x.kind) (row.Empty)
