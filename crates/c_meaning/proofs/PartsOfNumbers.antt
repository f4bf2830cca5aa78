-- Variables, prices and counts, by the parts of trees.
use Rattle.std.proofs.Common.{◌≡◌, ℕ, ◌+◌, List, [], ◌∷◌, ◌++◌, map, Option, Some, None, refl, ap, ◌∙◌}
use Rattle.std.specs.Prelude.{Bool, sum_by, option_map}
use Rattle.c_ast.specs.declared.tree.Unary.{Unary}
use Rattle.c_ast.specs.declared.tree.Binary.{Binary}
use Rattle.c_ast.specs.declared.typed.TypedExpr.{TypedExpr}
use Rattle.c_ast.specs.declared.typed.TypedExprKind.TheVariants as expr
use Rattle.c_ast.specs.declared.typed.TypedExprKind.TheBlock.{hidden-the_row-TypedExpr-0}
use Rattle.c_ast.specs.declared.typed.TypedTarget.{TypedTarget}
use Rattle.c_ast.specs.declared.typed.TypedStmt.{TypedStmt}
use Rattle.c_ast.specs.declared.typed.TypedStmtKind.TheVariants as stmt
use Rattle.c_ast.specs.declared.typed.TypedStmtKind.TheBlock.{back-TypedStmtKind-If-2}
use Rattle.c_ast.specs.declared.normal.NormalStmt.{NormalStmt}
use Rattle.c_ast.specs.declared.normal.NormalStmtKind.TheVariants as normal
use Rattle.c_ast.specs.declared.normal.NormalStmtKind.TheOpen as part
use Rattle.c_ast.specs.declared.normal.NormalStmtKind.TheBlock.{hidden-the_row-NormalStmt-0, back-NormalStmtKind-If-3}
use Rattle.c_meaning.specs.Stores.{Objects}
use Rattle.c_meaning.specs.Counts.{operator_price, expr_price, indices_price, counted, counted_if_any, row_counted, counts_step}
use Rattle.c_meaning.specs.Lawful.{object_vars, stmt_vars_of, stmt_vars_held, normal_vars_of, normal_vars_held, normal_vars_row, all_vars, all_normal_vars}
use Rattle.c_meaning.proofs.LawfulKernels.{row_vars}
use Rattle.c_meaning.specs.PartLaws.{vars_if_any, normal_vars_if_any, VarsBy, NormalVarsBy, PriceBy, CountsBy}
use Rattle.std.proofs.lemmas.List.Recursion.{is_sum_by}
use Rattle.c_meaning.proofs.TreeRows.{typed_expr_rows, typed_stmt_rows, normal_rows}

held_vars : (o : Option TypedStmt) → stmt_vars_held (back-TypedStmtKind-If-2 o) ≡ vars_if_any o
unfolding typed_stmt_rows
held_vars None = refl
held_vars (Some s) = refl

normals_vars : (ss : List NormalStmt) → normal_vars_row (hidden-the_row-NormalStmt-0 ss) ≡ all_normal_vars ss
unfolding normal_rows
normals_vars [] = refl
normals_vars (s ∷ ss) = ap (λ u. normal_vars_of s.kind ++ u) (normals_vars ss)

normal_held_vars : (o : Option NormalStmt) → normal_vars_held (back-NormalStmtKind-If-3 o) ≡ normal_vars_if_any o
unfolding normal_rows
normal_held_vars None = refl
normal_held_vars (Some s) = refl

pub exprs_price : (es : List TypedExpr) → indices_price (hidden-the_row-TypedExpr-0 es) ≡ sum_by (λ e. 4 + expr_price e) es
exprs_price es = unfold typed_expr_rows in is_sum_by (λ us. indices_price (hidden-the_row-TypedExpr-0 us)) (λ e. 4 + expr_price e) refl (λ e us. refl) es

pub normals_counted : (k : Objects) (ss : List NormalStmt) → row_counted k (hidden-the_row-NormalStmt-0 ss) ≡ map (counted k) ss
unfolding normal_rows
normals_counted k [] = refl
normals_counted k (s ∷ ss) = ap (λ u. counted k s ∷ u) (normals_counted k ss)

held_counted : (k : Objects) (o : Option NormalStmt) → counted_if_any k (back-NormalStmtKind-If-3 o) ≡ option_map (counted k) o
unfolding normal_rows
held_counted k None = refl
held_counted k (Some s) = refl

pub vars_block : (ss : List TypedStmt) → VarsBy (stmt.Block ss) (all_vars ss)
vars_block ss = unfold typed_stmt_rows in row_vars ss

pub vars_declaration : (v : ℕ) (e : Option TypedExpr) → VarsBy (stmt.Declare v e) (v ∷ [])
vars_declaration v e = unfold typed_stmt_rows in refl

pub vars_assignment : (t : TypedTarget) (op : Option Binary) (e : TypedExpr) → VarsBy (stmt.Assign t op e) (object_vars t.to)
vars_assignment t op e = unfold typed_stmt_rows in refl

pub vars_stepping : (t : TypedTarget) (up : Bool) → VarsBy (stmt.Step t up) (object_vars t.to)
vars_stepping t up = unfold typed_stmt_rows in refl

pub vars_choice : (c : TypedExpr) (s : TypedStmt) (o : Option TypedStmt) → VarsBy (stmt.If c s o) (stmt_vars_of s.kind ++ vars_if_any o)
vars_choice c s o = unfold typed_stmt_rows in ap (λ u. stmt_vars_of s.kind ++ u) (held_vars o)

pub vars_while_loop : (c : TypedExpr) (s : TypedStmt) → VarsBy (stmt.While c s) (stmt_vars_of s.kind)
vars_while_loop c s = unfold typed_stmt_rows in refl

pub vars_do_loop : (s : TypedStmt) (c : TypedExpr) → VarsBy (stmt.DoWhile s c) (stmt_vars_of s.kind)
vars_do_loop s c = unfold typed_stmt_rows in refl

pub vars_for_loop : (f : List TypedStmt) (c : Option TypedExpr) (o : Option TypedStmt) (s : TypedStmt) → VarsBy (stmt.For f c o s) (all_vars f ++ vars_if_any o ++ stmt_vars_of s.kind)
vars_for_loop f c o s = unfold typed_stmt_rows in ap (λ u. u ++ stmt_vars_held (back-TypedStmtKind-If-2 o) ++ stmt_vars_of s.kind) (row_vars f) ∙ ap (λ u. all_vars f ++ u ++ stmt_vars_of s.kind) (held_vars o)

pub vars_leaving : VarsBy stmt.Break []
vars_leaving = unfold typed_stmt_rows in refl

pub vars_continuing : VarsBy stmt.Continue []
vars_continuing = unfold typed_stmt_rows in refl

pub vars_returning : (e : Option TypedExpr) → VarsBy (stmt.Return e) []
vars_returning e = unfold typed_stmt_rows in refl

pub vars_empty : VarsBy stmt.Empty []
vars_empty = unfold typed_stmt_rows in refl

pub normal_vars_block : (ss : List NormalStmt) → NormalVarsBy (normal.Block ss) (all_normal_vars ss)
normal_vars_block ss = unfold normal_rows in normals_vars ss

pub normal_vars_declaration : (v : ℕ) (e : Option TypedExpr) → NormalVarsBy (normal.Declare v e) (v ∷ [])
normal_vars_declaration v e = unfold normal_rows in refl

pub normal_vars_assignment : (t : TypedTarget) (e : TypedExpr) → NormalVarsBy (normal.Assign t e) (object_vars t.to)
normal_vars_assignment t e = unfold normal_rows in refl

pub normal_vars_choice : (b : List NormalStmt) (c : TypedExpr) (s : NormalStmt) (o : Option NormalStmt) → NormalVarsBy (normal.If b c s o) (all_normal_vars b ++ normal_vars_of s.kind ++ normal_vars_if_any o)
normal_vars_choice b c s o = unfold normal_rows in ap (λ u. u ++ normal_vars_of s.kind ++ normal_vars_held (back-NormalStmtKind-If-3 o)) (normals_vars b) ∙ ap (λ u. all_normal_vars b ++ normal_vars_of s.kind ++ u) (normal_held_vars o)

pub normal_vars_while_loop : (b : List NormalStmt) (c : TypedExpr) (s : NormalStmt) → NormalVarsBy (normal.While b c s) (all_normal_vars b ++ normal_vars_of s.kind)
normal_vars_while_loop b c s = unfold normal_rows in ap (λ u. u ++ normal_vars_of s.kind) (normals_vars b)

pub normal_vars_do_loop : (s : NormalStmt) (b : List NormalStmt) (c : TypedExpr) → NormalVarsBy (normal.DoWhile s b c) (normal_vars_of s.kind ++ all_normal_vars b)
normal_vars_do_loop s b c = unfold normal_rows in ap (λ u. normal_vars_of s.kind ++ u) (normals_vars b)

pub normal_vars_for_loop : (f b : List NormalStmt) (c : Option TypedExpr) (o : Option NormalStmt) (s : NormalStmt) → NormalVarsBy (normal.For f b c o s) (all_normal_vars f ++ all_normal_vars b ++ normal_vars_if_any o ++ normal_vars_of s.kind)
normal_vars_for_loop f b c o s = unfold normal_rows in ap (λ u. u ++ normal_vars_row (hidden-the_row-NormalStmt-0 b) ++ normal_vars_held (back-NormalStmtKind-If-3 o) ++ normal_vars_of s.kind) (normals_vars f) ∙ ap (λ u. all_normal_vars f ++ u ++ normal_vars_held (back-NormalStmtKind-If-3 o) ++ normal_vars_of s.kind) (normals_vars b) ∙ ap (λ u. all_normal_vars f ++ all_normal_vars b ++ u ++ normal_vars_of s.kind) (normal_held_vars o)

pub normal_vars_leaving : NormalVarsBy normal.Break []
normal_vars_leaving = unfold normal_rows in refl

pub normal_vars_continuing : NormalVarsBy normal.Continue []
normal_vars_continuing = unfold normal_rows in refl

pub normal_vars_returning : (e : Option TypedExpr) → NormalVarsBy (normal.Return e) []
normal_vars_returning e = unfold normal_rows in refl

pub normal_vars_empty : NormalVarsBy normal.Empty []
normal_vars_empty = unfold normal_rows in refl

pub price_number : (n : ℕ) → PriceBy (expr.Number n) 1
price_number n = unfold typed_expr_rows in refl

pub price_variable : (v : ℕ) → PriceBy (expr.Var v) 1
price_variable v = unfold typed_expr_rows in refl

pub price_element : (a : ℕ) (es : List TypedExpr) → PriceBy (expr.Element a es) (1 + sum_by (λ e. 4 + expr_price e) es)
price_element a es = unfold typed_expr_rows in ap (λ n. 1 + n) (exprs_price es)

pub price_unary : (op : Unary) (e : TypedExpr) → PriceBy (expr.Unary op e) (1 + expr_price e)
price_unary op e = unfold typed_expr_rows in refl

pub price_cast : (implied : Bool) (e : TypedExpr) → PriceBy (expr.Cast implied e) (1 + expr_price e)
price_cast implied e = unfold typed_expr_rows in refl

pub price_binary : (op : Binary) (a b : TypedExpr) → PriceBy (expr.Binary op a b) (1 + operator_price op + expr_price a + expr_price b)
price_binary op a b = unfold typed_expr_rows in refl

pub price_choice : (c a b : TypedExpr) → PriceBy (expr.Choose c a b) (3 + expr_price c + expr_price a + expr_price b)
price_choice c a b = unfold typed_expr_rows in refl

pub counts_block : (ss : List NormalStmt) → CountsBy (normal.Block ss) (λ k. part.Block (map (counted k) ss))
counts_block ss = unfold normal_rows in λ k. ap (λ u. counts_step k (part.Block u)) (normals_counted k ss)

pub counts_declaration : (v : ℕ) (e : Option TypedExpr) → CountsBy (normal.Declare v e) (λ k. part.Declare v e)
counts_declaration v e = unfold normal_rows in λ k. refl

pub counts_assignment : (t : TypedTarget) (e : TypedExpr) → CountsBy (normal.Assign t e) (λ k. part.Assign t e)
counts_assignment t e = unfold normal_rows in λ k. refl

pub counts_choice : (b : List NormalStmt) (c : TypedExpr) (s : NormalStmt) (o : Option NormalStmt) → CountsBy (normal.If b c s o) (λ k. part.If (map (counted k) b) c (counted k s) (option_map (counted k) o))
counts_choice b c s o = unfold normal_rows in λ k. ap (λ u. counts_step k (part.If u c (counted k s) (counted_if_any k (back-NormalStmtKind-If-3 o)))) (normals_counted k b) ∙ ap (λ u. counts_step k (part.If (map (counted k) b) c (counted k s) u)) (held_counted k o)

pub counts_while_loop : (b : List NormalStmt) (c : TypedExpr) (s : NormalStmt) → CountsBy (normal.While b c s) (λ k. part.While (map (counted k) b) c (counted k s))
counts_while_loop b c s = unfold normal_rows in λ k. ap (λ u. counts_step k (part.While u c (counted k s))) (normals_counted k b)

pub counts_do_loop : (s : NormalStmt) (b : List NormalStmt) (c : TypedExpr) → CountsBy (normal.DoWhile s b c) (λ k. part.DoWhile (counted k s) (map (counted k) b) c)
counts_do_loop s b c = unfold normal_rows in λ k. ap (λ u. counts_step k (part.DoWhile (counted k s) u c)) (normals_counted k b)

pub counts_for_loop : (f b : List NormalStmt) (c : Option TypedExpr) (o : Option NormalStmt) (s : NormalStmt) → CountsBy (normal.For f b c o s) (λ k. part.For (map (counted k) f) (map (counted k) b) c (option_map (counted k) o) (counted k s))
counts_for_loop f b c o s = unfold normal_rows in λ k. ap (λ u. counts_step k (part.For u (row_counted k (hidden-the_row-NormalStmt-0 b)) c (counted_if_any k (back-NormalStmtKind-If-3 o)) (counted k s))) (normals_counted k f) ∙ ap (λ u. counts_step k (part.For (map (counted k) f) u c (counted_if_any k (back-NormalStmtKind-If-3 o)) (counted k s))) (normals_counted k b) ∙ ap (λ u. counts_step k (part.For (map (counted k) f) (map (counted k) b) c u (counted k s))) (held_counted k o)

pub counts_leaving : CountsBy normal.Break (λ k. part.Break)
counts_leaving = unfold normal_rows in λ k. refl

pub counts_continuing : CountsBy normal.Continue (λ k. part.Continue)
counts_continuing = unfold normal_rows in λ k. refl

pub counts_returning : (e : Option TypedExpr) → CountsBy (normal.Return e) (λ k. part.Return e)
counts_returning e = unfold normal_rows in λ k. refl

pub counts_empty : CountsBy normal.Empty (λ k. part.Empty)
counts_empty = unfold normal_rows in λ k. refl

pub ruleset vars_of_parts = (
  vars_block,
  vars_declaration,
  vars_assignment,
  vars_stepping,
  vars_choice,
  vars_while_loop,
  vars_do_loop,
  vars_for_loop,
  vars_leaving,
  vars_continuing,
  vars_returning,
  vars_empty,
)

pub ruleset prices_of_parts = (
  exprs_price,
  price_number,
  price_variable,
  price_element,
  price_unary,
  price_cast,
  price_binary,
  price_choice,
)

pub ruleset counts_of_parts = (
  normals_counted,
  counts_block,
  counts_declaration,
  counts_assignment,
  counts_choice,
  counts_while_loop,
  counts_do_loop,
  counts_for_loop,
  counts_leaving,
  counts_continuing,
  counts_returning,
  counts_empty,
)

pub ruleset normal_vars_of_parts = (
  normal_vars_block,
  normal_vars_declaration,
  normal_vars_assignment,
  normal_vars_choice,
  normal_vars_while_loop,
  normal_vars_do_loop,
  normal_vars_for_loop,
  normal_vars_leaving,
  normal_vars_continuing,
  normal_vars_returning,
  normal_vars_empty,
)
