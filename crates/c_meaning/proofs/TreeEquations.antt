-- The equations of whole trees, through the rows in which trees hold their parts.
use Rattle.std.proofs.Common.{◌≡◌, ℕ, List, [], ◌∷◌, map, Option, Some, None, refl, ap, ◌∙◌}
use Rattle.std.specs.Prelude.{option_map, Bool}
use Rattle.c_ast.specs.declared.tree.Unary.{Unary}
use Rattle.c_ast.specs.declared.tree.Binary.{Binary}
use Rattle.c_ast.specs.declared.typed.TypedExpr.{TypedExpr}
use Rattle.c_ast.specs.declared.typed.TypedExprKind.TheVariants as expr
use Rattle.c_ast.specs.declared.typed.TypedExprKind.TheOpen as part
use Rattle.c_ast.specs.declared.typed.TypedExprKind.TheBlock.{hidden-the_row-TypedExpr-0}
use Rattle.c_ast.specs.declared.typed.TypedTarget.{TypedTarget}
use Rattle.c_ast.specs.declared.typed.TypedStmt.{TypedStmt}
use Rattle.c_ast.specs.declared.typed.TypedStmtKind.TheVariants as stmt
use Rattle.c_ast.specs.declared.typed.TypedStmtKind.TheBlock.{hidden-the_row-TypedStmt-0, back-TypedStmtKind-If-2}
use Rattle.c_ast.specs.declared.normal.NormalStmt.{NormalStmt}
use Rattle.c_ast.specs.declared.normal.NormalStmtKind.TheVariants as normal
use Rattle.c_ast.specs.declared.normal.NormalStmtKind.TheBlock.{hidden-the_row-NormalStmt-0, back-NormalStmtKind-If-3}
use Rattle.c_meaning.specs.Stores.{Objects}
use Rattle.c_meaning.specs.Expressions.{meaning, val_step, row_meanings}
use Rattle.c_meaning.specs.Statements.{act, a_block, a_declaration, an_assignment, a_step, an_if, a_while, a_do, a_for, a_break, a_continue, a_return, an_empty, stmt_step, meant_target, meant_if_any, act_if_any, row_acts}
use Rattle.c_meaning.specs.Normals.{normal_act, normal_act_if_any, normal_row_acts}
use Rattle.c_meaning.specs.Equations.{MeansBy, RunsBy, NormalRunsBy}
use Rattle.c_meaning.proofs.TreeRows.{typed_expr_rows, typed_stmt_rows, normal_rows}

-- a row means what the list of its items means
pub exprs : (k : Objects) (es : List TypedExpr) → row_meanings k (hidden-the_row-TypedExpr-0 es) ≡ map (meaning k) es
unfolding typed_expr_rows
exprs k [] = refl
exprs k (e ∷ es) = ap (λ ms. meaning k e ∷ ms) (exprs k es)

pub stmts : (k : Objects) (ss : List TypedStmt) → row_acts k (hidden-the_row-TypedStmt-0 ss) ≡ map (act k) ss
unfolding typed_stmt_rows
stmts k [] = refl
stmts k (s ∷ ss) = ap (λ as_of. act k s ∷ as_of) (stmts k ss)

stmt_if_any : (k : Objects) (o : Option TypedStmt) → act_if_any k (back-TypedStmtKind-If-2 o) ≡ option_map (act k) o
unfolding typed_stmt_rows
stmt_if_any k None = refl
stmt_if_any k (Some s) = refl

pub normals : (k : Objects) (ss : List NormalStmt) → normal_row_acts k (hidden-the_row-NormalStmt-0 ss) ≡ map (normal_act k) ss
unfolding normal_rows
normals k [] = refl
normals k (s ∷ ss) = ap (λ as_of. normal_act k s ∷ as_of) (normals k ss)

normal_if_any : (k : Objects) (o : Option NormalStmt) → normal_act_if_any k (back-NormalStmtKind-If-3 o) ≡ option_map (normal_act k) o
unfolding normal_rows
normal_if_any k None = refl
normal_if_any k (Some s) = refl

-- ---- expressions

pub expr_number : (n : ℕ) → MeansBy (expr.Number n) (λ k. part.Number n)
expr_number n = unfold typed_expr_rows in λ k ty at. refl

pub expr_var : (v : ℕ) → MeansBy (expr.Var v) (λ k. part.Var v)
expr_var v = unfold typed_expr_rows in λ k ty at. refl

pub expr_element : (a : ℕ) (es : List TypedExpr) → MeansBy (expr.Element a es) (λ k. part.Element a (map (meaning k) es))
expr_element a es = unfold typed_expr_rows in λ k ty at. ap (λ ms. val_step k (part.Element a ms) ty at) (exprs k es)

pub expr_unary : (op : Unary) (e : TypedExpr) → MeansBy (expr.Unary op e) (λ k. part.Unary op (meaning k e))
expr_unary op e = unfold typed_expr_rows in λ k ty at. refl

pub expr_cast : (implied : Bool) (e : TypedExpr) → MeansBy (expr.Cast implied e) (λ k. part.Cast implied (meaning k e))
expr_cast implied e = unfold typed_expr_rows in λ k ty at. refl

pub expr_binary : (op : Binary) (a b : TypedExpr) → MeansBy (expr.Binary op a b) (λ k. part.Binary op (meaning k a) (meaning k b))
expr_binary op a b = unfold typed_expr_rows in λ k ty at. refl

pub expr_choose : (c a b : TypedExpr) → MeansBy (expr.Choose c a b) (λ k. part.Choose (meaning k c) (meaning k a) (meaning k b))
expr_choose c a b = unfold typed_expr_rows in λ k ty at. refl

-- ---- statements

pub stmt_block : (ss : List TypedStmt) → RunsBy (stmt.Block ss) (λ k. a_block (map (act k) ss))
stmt_block ss = unfold typed_stmt_rows in λ k. ap (λ as_of. stmt_step k (a_block as_of)) (stmts k ss)

pub stmt_declare : (v : ℕ) (e : Option TypedExpr) → RunsBy (stmt.Declare v e) (λ k. a_declaration v (meant_if_any k e))
stmt_declare v e = unfold typed_stmt_rows in λ k. refl

pub stmt_assign : (t : TypedTarget) (op : Option Binary) (e : TypedExpr) → RunsBy (stmt.Assign t op e) (λ k. an_assignment (meant_target k t) op e.ty (meaning k e))
stmt_assign t op e = unfold typed_stmt_rows in λ k. refl

pub stmt_stepping : (t : TypedTarget) (up : Bool) → RunsBy (stmt.Step t up) (λ k. a_step (meant_target k t) up)
stmt_stepping t up = unfold typed_stmt_rows in λ k. refl

pub stmt_if : (c : TypedExpr) (s : TypedStmt) (o : Option TypedStmt) → RunsBy (stmt.If c s o) (λ k. an_if [] (meaning k c) (act k s) (option_map (act k) o))
stmt_if c s o = unfold typed_stmt_rows in λ k. ap (λ a. stmt_step k (an_if [] (meaning k c) (act k s) a)) (stmt_if_any k o)

pub stmt_while : (c : TypedExpr) (s : TypedStmt) → RunsBy (stmt.While c s) (λ k. a_while [] (meaning k c) (act k s))
stmt_while c s = unfold typed_stmt_rows in λ k. refl

pub stmt_do_while : (s : TypedStmt) (c : TypedExpr) → RunsBy (stmt.DoWhile s c) (λ k. a_do (act k s) [] (meaning k c))
stmt_do_while s c = unfold typed_stmt_rows in λ k. refl

pub stmt_for : (f : List TypedStmt) (c : Option TypedExpr) (o : Option TypedStmt) (s : TypedStmt) → RunsBy (stmt.For f c o s) (λ k. a_for (map (act k) f) [] (meant_if_any k c) (option_map (act k) o) (act k s))
stmt_for f c o s = unfold typed_stmt_rows in λ k.
    ap (λ fs. stmt_step k (a_for fs [] (meant_if_any k c) (act_if_any k (back-TypedStmtKind-If-2 o)) (act k s))) (stmts k f)
    ∙ ap (λ a. stmt_step k (a_for (map (act k) f) [] (meant_if_any k c) a (act k s))) (stmt_if_any k o)

pub stmt_break : RunsBy (stmt.Break) (λ k. a_break)
stmt_break = unfold typed_stmt_rows in λ k. refl

pub stmt_continue : RunsBy (stmt.Continue) (λ k. a_continue)
stmt_continue = unfold typed_stmt_rows in λ k. refl

pub stmt_return : (e : Option TypedExpr) → RunsBy (stmt.Return e) (λ k. a_return (meant_if_any k e))
stmt_return e = unfold typed_stmt_rows in λ k. refl

pub stmt_empty : RunsBy (stmt.Empty) (λ k. an_empty)
stmt_empty = unfold typed_stmt_rows in λ k. refl

-- ---- normal forms

pub normal_block : (ss : List NormalStmt) → NormalRunsBy (normal.Block ss) (λ k. a_block (map (normal_act k) ss))
normal_block ss = unfold normal_rows in λ k. ap (λ as_of. stmt_step k (a_block as_of)) (normals k ss)

pub normal_declare : (v : ℕ) (e : Option TypedExpr) → NormalRunsBy (normal.Declare v e) (λ k. a_declaration v (meant_if_any k e))
normal_declare v e = unfold normal_rows in λ k. refl

pub normal_assign : (t : TypedTarget) (e : TypedExpr) → NormalRunsBy (normal.Assign t e) (λ k. an_assignment (meant_target k t) None e.ty (meaning k e))
normal_assign t e = unfold normal_rows in λ k. refl

pub normal_if : (before : List NormalStmt) (c : TypedExpr) (s : NormalStmt) (o : Option NormalStmt) → NormalRunsBy (normal.If before c s o) (λ k. an_if (map (normal_act k) before) (meaning k c) (normal_act k s) (option_map (normal_act k) o))
normal_if before c s o = unfold normal_rows in λ k. ap (λ as_of. stmt_step k (an_if as_of (meaning k c) (normal_act k s) (normal_act_if_any k (back-NormalStmtKind-If-3 o)))) (normals k before) ∙ ap (λ a. stmt_step k (an_if (map (normal_act k) before) (meaning k c) (normal_act k s) a)) (normal_if_any k o)

pub normal_while : (before : List NormalStmt) (c : TypedExpr) (s : NormalStmt) → NormalRunsBy (normal.While before c s) (λ k. a_while (map (normal_act k) before) (meaning k c) (normal_act k s))
normal_while before c s = unfold normal_rows in λ k. ap (λ as_of. stmt_step k (a_while as_of (meaning k c) (normal_act k s))) (normals k before)

pub normal_do_while : (s : NormalStmt) (before : List NormalStmt) (c : TypedExpr) → NormalRunsBy (normal.DoWhile s before c) (λ k. a_do (normal_act k s) (map (normal_act k) before) (meaning k c))
normal_do_while s before c = unfold normal_rows in λ k. ap (λ as_of. stmt_step k (a_do (normal_act k s) as_of (meaning k c))) (normals k before)

pub normal_for : (f : List NormalStmt) (before : List NormalStmt) (c : Option TypedExpr) (o : Option NormalStmt) (s : NormalStmt) → NormalRunsBy (normal.For f before c o s) (λ k. a_for (map (normal_act k) f) (map (normal_act k) before) (meant_if_any k c) (option_map (normal_act k) o) (normal_act k s))
normal_for f before c o s = unfold normal_rows in λ k. ap (λ fs. stmt_step k (a_for fs (normal_row_acts k (hidden-the_row-NormalStmt-0 before)) (meant_if_any k c) (normal_act_if_any k (back-NormalStmtKind-If-3 o)) (normal_act k s))) (normals k f) ∙ ap (λ as_of. stmt_step k (a_for (map (normal_act k) f) as_of (meant_if_any k c) (normal_act_if_any k (back-NormalStmtKind-If-3 o)) (normal_act k s))) (normals k before) ∙ ap (λ a. stmt_step k (a_for (map (normal_act k) f) (map (normal_act k) before) (meant_if_any k c) a (normal_act k s))) (normal_if_any k o)

pub normal_break : NormalRunsBy (normal.Break) (λ k. a_break)
normal_break = unfold normal_rows in λ k. refl

pub normal_continue : NormalRunsBy (normal.Continue) (λ k. a_continue)
normal_continue = unfold normal_rows in λ k. refl

pub normal_return : (e : Option TypedExpr) → NormalRunsBy (normal.Return e) (λ k. a_return (meant_if_any k e))
normal_return e = unfold normal_rows in λ k. refl

pub normal_empty : NormalRunsBy (normal.Empty) (λ k. an_empty)
normal_empty = unfold normal_rows in λ k. refl

pub ruleset meanings_of_parts = (
  exprs,
  expr_number,
  expr_var,
  expr_element,
  expr_unary,
  expr_cast,
  expr_binary,
  expr_choose,
)

pub ruleset runs_of_parts = (
  stmts,
  stmt_block,
  stmt_declare,
  stmt_assign,
  stmt_stepping,
  stmt_if,
  stmt_while,
  stmt_do_while,
  stmt_for,
  stmt_break,
  stmt_continue,
  stmt_return,
  stmt_empty,
)

pub ruleset normal_runs_of_parts = (
  normals,
  normal_block,
  normal_declare,
  normal_assign,
  normal_if,
  normal_while,
  normal_do_while,
  normal_for,
  normal_break,
  normal_continue,
  normal_return,
  normal_empty,
)
