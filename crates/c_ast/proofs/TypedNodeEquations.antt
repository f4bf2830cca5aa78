-- Nodes of whole typed trees, by those of their parts.
use Rattle.std.proofs.Common.{◌≡◌, ℕ, ◌+◌, List, Bool, true, false, Option, Some, None, refl, ap, ◌∙◌}
use Rattle.std.proofs.lemmas.List.Recursion.{is_sum_by}
use denote.Hole.Carrier.{hidden}
use Rattle.c_ast.specs.declared.tree.Unary.{Unary}
use Rattle.c_ast.specs.declared.tree.Binary.{Binary}
use Rattle.c_ast.specs.declared.typed.TypedExpr.{TypedExpr}
use Rattle.c_ast.specs.declared.typed.TypedExprKind.TheVariants as typed
use Rattle.c_ast.specs.declared.typed.TypedExprKind.TheBlock.{shape-the_row-TypedExpr-0, hidden-the_row-TypedExpr-0, shape-the_row-TypedExpr-1, hidden-the_row-TypedExpr-1}
use Rattle.c_ast.specs.declared.typed.TypedTarget.{TypedTarget}
use Rattle.c_ast.specs.declared.typed.TypedStmt.{TypedStmt}
use Rattle.c_ast.specs.declared.typed.TypedStmtKind.TheVariants as act
use Rattle.c_ast.specs.declared.typed.TypedStmtKind.TheBlock.{shape-the_row-TypedStmt-0, hidden-the_row-TypedStmt-0, shape-the_row-TypedStmt-1, hidden-the_row-TypedStmt-1, back-TypedStmtKind-If-2}
use Rattle.c_ast.specs.Nodes.{typed_kind_nodes, typed_row_nodes, typed_expr_nodes, typed_exprs_nodes, typed_opt_nodes, typed_target_nodes, act_nodes, held_act_nodes, acts_nodes, typed_stmt_nodes, typed_stmts_nodes, typed_held_nodes}

-- a row has the nodes of the list of its items
exprs : (es : List TypedExpr) → typed_row_nodes (hidden-the_row-TypedExpr-0 es) ≡ typed_exprs_nodes es
unfolding shape-the_row-TypedExpr-0 hidden-the_row-TypedExpr-0 shape-the_row-TypedExpr-1 hidden-the_row-TypedExpr-1 hidden
exprs es = is_sum_by (λ es. typed_row_nodes (hidden-the_row-TypedExpr-0 es)) typed_expr_nodes refl (λ e es. refl) es

stmts : (ss : List TypedStmt) → acts_nodes (hidden-the_row-TypedStmt-0 ss) ≡ typed_stmts_nodes ss
unfolding shape-the_row-TypedStmt-0 hidden-the_row-TypedStmt-0 shape-the_row-TypedStmt-1 hidden-the_row-TypedStmt-1 hidden
stmts ss = is_sum_by (λ ss. acts_nodes (hidden-the_row-TypedStmt-0 ss)) typed_stmt_nodes refl (λ s ss. refl) ss

held : (o : Option TypedStmt) → held_act_nodes (back-TypedStmtKind-If-2 o) ≡ typed_held_nodes o
unfolding shape-the_row-TypedStmt-0 hidden-the_row-TypedStmt-0 shape-the_row-TypedStmt-1 hidden-the_row-TypedStmt-1 hidden
held None = refl
held (Some s) = refl

-- ---- expressions

pub typed_number : (n : ℕ) → typed_kind_nodes (typed.Number n) ≡ 1
unfolding shape-the_row-TypedExpr-0 hidden-the_row-TypedExpr-0 shape-the_row-TypedExpr-1 hidden-the_row-TypedExpr-1 hidden
typed_number n = refl

pub typed_var : (v : ℕ) → typed_kind_nodes (typed.Var v) ≡ 1
unfolding shape-the_row-TypedExpr-0 hidden-the_row-TypedExpr-0 shape-the_row-TypedExpr-1 hidden-the_row-TypedExpr-1 hidden
typed_var v = refl

pub typed_element : (a : ℕ) (es : List TypedExpr) → typed_kind_nodes (typed.Element a es) ≡ 1 + typed_exprs_nodes es
unfolding shape-the_row-TypedExpr-0 hidden-the_row-TypedExpr-0 shape-the_row-TypedExpr-1 hidden-the_row-TypedExpr-1 hidden
typed_element a es = ap (λ n. 1 + n) (exprs es)

pub typed_unary : (op : Unary) (e : TypedExpr) → typed_kind_nodes (typed.Unary op e) ≡ 1 + typed_expr_nodes e
unfolding shape-the_row-TypedExpr-0 hidden-the_row-TypedExpr-0 shape-the_row-TypedExpr-1 hidden-the_row-TypedExpr-1 hidden
typed_unary op e = refl

pub typed_implied : (e : TypedExpr) → typed_kind_nodes (typed.Cast true e) ≡ typed_expr_nodes e
unfolding shape-the_row-TypedExpr-0 hidden-the_row-TypedExpr-0 shape-the_row-TypedExpr-1 hidden-the_row-TypedExpr-1 hidden
typed_implied e = refl

pub typed_written : (e : TypedExpr) → typed_kind_nodes (typed.Cast false e) ≡ 1 + typed_expr_nodes e
unfolding shape-the_row-TypedExpr-0 hidden-the_row-TypedExpr-0 shape-the_row-TypedExpr-1 hidden-the_row-TypedExpr-1 hidden
typed_written e = refl

pub typed_binary : (op : Binary) (a b : TypedExpr) → typed_kind_nodes (typed.Binary op a b) ≡ 1 + typed_expr_nodes a + typed_expr_nodes b
unfolding shape-the_row-TypedExpr-0 hidden-the_row-TypedExpr-0 shape-the_row-TypedExpr-1 hidden-the_row-TypedExpr-1 hidden
typed_binary op a b = refl

pub typed_choice : (c a b : TypedExpr) → typed_kind_nodes (typed.Choose c a b) ≡ 1 + typed_expr_nodes c + typed_expr_nodes a + typed_expr_nodes b
unfolding shape-the_row-TypedExpr-0 hidden-the_row-TypedExpr-0 shape-the_row-TypedExpr-1 hidden-the_row-TypedExpr-1 hidden
typed_choice c a b = refl

-- ---- statements

pub act_block : (ss : List TypedStmt) → act_nodes (act.Block ss) ≡ 1 + typed_stmts_nodes ss
unfolding shape-the_row-TypedStmt-0 hidden-the_row-TypedStmt-0 shape-the_row-TypedStmt-1 hidden-the_row-TypedStmt-1 hidden
act_block ss = ap (λ n. 1 + n) (stmts ss)

pub act_declaration : (v : ℕ) (e : Option TypedExpr) → act_nodes (act.Declare v e) ≡ 1 + typed_opt_nodes e
unfolding shape-the_row-TypedStmt-0 hidden-the_row-TypedStmt-0 shape-the_row-TypedStmt-1 hidden-the_row-TypedStmt-1 hidden
act_declaration v e = refl

pub act_assignment : (t : TypedTarget) (op : Option Binary) (e : TypedExpr) → act_nodes (act.Assign t op e) ≡ 1 + typed_target_nodes t + typed_expr_nodes e
unfolding shape-the_row-TypedStmt-0 hidden-the_row-TypedStmt-0 shape-the_row-TypedStmt-1 hidden-the_row-TypedStmt-1 hidden
act_assignment t op e = refl

pub act_stepping : (t : TypedTarget) (up : Bool) → act_nodes (act.Step t up) ≡ 1 + typed_target_nodes t
unfolding shape-the_row-TypedStmt-0 hidden-the_row-TypedStmt-0 shape-the_row-TypedStmt-1 hidden-the_row-TypedStmt-1 hidden
act_stepping t up = refl

pub act_choice : (e : TypedExpr) (a : TypedStmt) (o : Option TypedStmt) → act_nodes (act.If e a o) ≡ 1 + typed_expr_nodes e + typed_stmt_nodes a + typed_held_nodes o
unfolding shape-the_row-TypedStmt-0 hidden-the_row-TypedStmt-0 shape-the_row-TypedStmt-1 hidden-the_row-TypedStmt-1 hidden
act_choice e a o = ap (λ n. 1 + typed_expr_nodes e + typed_stmt_nodes a + n) (held o)

pub act_while_loop : (e : TypedExpr) (a : TypedStmt) → act_nodes (act.While e a) ≡ 1 + typed_expr_nodes e + typed_stmt_nodes a
unfolding shape-the_row-TypedStmt-0 hidden-the_row-TypedStmt-0 shape-the_row-TypedStmt-1 hidden-the_row-TypedStmt-1 hidden
act_while_loop e a = refl

pub act_do_loop : (a : TypedStmt) (e : TypedExpr) → act_nodes (act.DoWhile a e) ≡ 1 + typed_stmt_nodes a + typed_expr_nodes e
unfolding shape-the_row-TypedStmt-0 hidden-the_row-TypedStmt-0 shape-the_row-TypedStmt-1 hidden-the_row-TypedStmt-1 hidden
act_do_loop a e = refl

pub act_for_loop : (ss : List TypedStmt) (e : Option TypedExpr) (o : Option TypedStmt) (a : TypedStmt) → act_nodes (act.For ss e o a) ≡ 1 + typed_stmts_nodes ss + typed_opt_nodes e + typed_held_nodes o + typed_stmt_nodes a
unfolding shape-the_row-TypedStmt-0 hidden-the_row-TypedStmt-0 shape-the_row-TypedStmt-1 hidden-the_row-TypedStmt-1 hidden
act_for_loop ss e o a = ap (λ n. 1 + n + typed_opt_nodes e + held_act_nodes (back-TypedStmtKind-If-2 o) + typed_stmt_nodes a) (stmts ss) ∙ ap (λ n. 1 + typed_stmts_nodes ss + typed_opt_nodes e + n + typed_stmt_nodes a) (held o)

pub act_leaving : act_nodes (act.Break) ≡ 1
unfolding shape-the_row-TypedStmt-0 hidden-the_row-TypedStmt-0 shape-the_row-TypedStmt-1 hidden-the_row-TypedStmt-1 hidden
act_leaving = refl

pub act_continuing : act_nodes (act.Continue) ≡ 1
unfolding shape-the_row-TypedStmt-0 hidden-the_row-TypedStmt-0 shape-the_row-TypedStmt-1 hidden-the_row-TypedStmt-1 hidden
act_continuing = refl

pub act_returning : (e : Option TypedExpr) → act_nodes (act.Return e) ≡ 1 + typed_opt_nodes e
unfolding shape-the_row-TypedStmt-0 hidden-the_row-TypedStmt-0 shape-the_row-TypedStmt-1 hidden-the_row-TypedStmt-1 hidden
act_returning e = refl

pub act_empty : act_nodes (act.Empty) ≡ 1
unfolding shape-the_row-TypedStmt-0 hidden-the_row-TypedStmt-0 shape-the_row-TypedStmt-1 hidden-the_row-TypedStmt-1 hidden
act_empty = refl
