-- Counts by the parts of a tree, as the code takes it apart, and sums that stop at 2^64 - 1.
use Rattle.std.proofs.Common.{◌≡◌, ℕ, zero, suc, ◌+◌, ◌-◌, ◌^◌, List, [], ◌∷◌, min, refl, sym, ◌∙◌, ap, arith}
use Rattle.std.specs.Prelude.{Bool, slice_get, sum_by, Option, Some, None}
use Rattle.std.proofs.lemmas.List.Sums.{sum_by-cons}
use Rattle.c_ast.specs.declared.tree.Unary.{Unary}
use Rattle.c_ast.specs.declared.tree.Binary.{Binary}
use Rattle.c_ast.specs.declared.program.ProgExpr.{ProgExpr}
use Rattle.c_ast.specs.declared.program.ProgExprKind.TheVariants as expr
use Rattle.c_ast.specs.declared.program.ProgExprKind.TheBlock.{hidden-the_row-ProgExpr-0}
use Rattle.c_ast.specs.declared.program.ProgStmt.{ProgStmt}
use Rattle.c_ast.specs.declared.program.ProgStmtKind.{back-ProgStmtKind-If-2}
use Rattle.c_ast.specs.declared.program.ProgStmtKind.TheVariants as stmt
use Rattle.c_ast.specs.declared.program.ProgStmtKind.TheBlock.{hidden-the_row-ProgStmt-0}
use Rattle.c_calls.specs.Counts.{inlined_stmt_nodes, inlined_row_nodes, inlined_held_nodes, inlined_list_nodes, rest_option_nodes, rest_nodes, rest_row_nodes, rest_expr_nodes, argument_nodes, call_nodes, calls_nodes, calls_row_nodes, calls_expr_nodes, behind_nodes}
use Rattle.c_inline.specs.Code.{declared_nodes, held_nodes, stmt_nodes}
use Rattle.c_calls.proofs.TreeRows.{prog_expr_rows, prog_stmt_rows}

-- ---- what is left of expressions

rest_row : (es : List ProgExpr) → rest_row_nodes (hidden-the_row-ProgExpr-0 es) ≡ sum_by rest_expr_nodes es
unfolding prog_expr_rows
rest_row [] = refl
rest_row (e ∷ es) = ap (λ n. rest_expr_nodes e + n) (rest_row es) ∙ sym (sum_by-cons rest_expr_nodes e es)

pub rest_element : (e : ProgExpr) (a : ℕ) (es : List ProgExpr) → e.kind ≡ expr.Element a es → rest_expr_nodes e ≡ 1 + sum_by rest_expr_nodes es
rest_element e a es is = unfold prog_expr_rows in ap rest_nodes is ∙ ap (λ n. 1 + n) (rest_row es)

-- ---- blocks of calls

declared_row : (es : List ProgExpr) → argument_nodes (hidden-the_row-ProgExpr-0 es) ≡ sum_by declared_nodes es
unfolding prog_expr_rows
declared_row [] = refl
declared_row (e ∷ es) = ap (λ n. 1 + rest_expr_nodes e + n) (declared_row es) ∙ sym (sum_by-cons declared_nodes e es)

calls_row : (ns : List ℕ) (es : List ProgExpr) → calls_row_nodes ns (hidden-the_row-ProgExpr-0 es) ≡ sum_by (calls_expr_nodes ns) es
unfolding prog_expr_rows
calls_row ns [] = refl
calls_row ns (e ∷ es) = ap (λ n. calls_expr_nodes ns e + n) (calls_row ns es) ∙ sym (sum_by-cons (calls_expr_nodes ns) e es)

pub calls_number : (ns : List ℕ) (e : ProgExpr) (n : ℕ) → e.kind ≡ expr.Number n → calls_expr_nodes ns e ≡ 0
calls_number ns e n is = ap (calls_nodes ns) is

pub calls_var : (ns : List ℕ) (e : ProgExpr) (v : ℕ) → e.kind ≡ expr.Var v → calls_expr_nodes ns e ≡ 0
calls_var ns e v is = ap (calls_nodes ns) is

pub calls_element : (ns : List ℕ) (e : ProgExpr) (a : ℕ) (es : List ProgExpr) → e.kind ≡ expr.Element a es → calls_expr_nodes ns e ≡ sum_by (calls_expr_nodes ns) es
calls_element ns e a es is = unfold prog_expr_rows in ap (calls_nodes ns) is ∙ calls_row ns es

pub calls_unary : (ns : List ℕ) (e : ProgExpr) (op : Unary) (x : ProgExpr) → e.kind ≡ expr.Unary op x → calls_expr_nodes ns e ≡ calls_expr_nodes ns x
calls_unary ns e op x is = unfold prog_expr_rows in ap (calls_nodes ns) is

pub calls_cast : (ns : List ℕ) (e : ProgExpr) (implied : Bool) (x : ProgExpr) → e.kind ≡ expr.Cast implied x → calls_expr_nodes ns e ≡ calls_expr_nodes ns x
calls_cast ns e implied x is = unfold prog_expr_rows in ap (calls_nodes ns) is

pub calls_binary : (ns : List ℕ) (e : ProgExpr) (op : Binary) (x y : ProgExpr) → e.kind ≡ expr.Binary op x y → calls_expr_nodes ns e ≡ calls_expr_nodes ns x + calls_expr_nodes ns y
calls_binary ns e op x y is = unfold prog_expr_rows in ap (calls_nodes ns) is

pub calls_choice : (ns : List ℕ) (e : ProgExpr) (x y z : ProgExpr) → e.kind ≡ expr.Choose x y z → calls_expr_nodes ns e ≡ calls_expr_nodes ns x + calls_expr_nodes ns y + calls_expr_nodes ns z
calls_choice ns e x y z is = unfold prog_expr_rows in omega (arith, ap (calls_nodes ns) is)

pub calls_call : (ns : List ℕ) (e : ProgExpr) (h : ℕ) (es : List ProgExpr) → e.kind ≡ expr.Call h es → calls_expr_nodes ns e ≡ sum_by (calls_expr_nodes ns) es + call_nodes (slice_get ns h) (sum_by declared_nodes es)
calls_call ns e h es is = unfold prog_expr_rows in ap (calls_nodes ns) is ∙ ap (λ n. n + call_nodes (slice_get ns h) (argument_nodes (hidden-the_row-ProgExpr-0 es))) (calls_row ns es) ∙ ap (λ n. sum_by (calls_expr_nodes ns) es + call_nodes (slice_get ns h) n) (declared_row es)

-- ---- statements

pub stmts_row : (ns : List ℕ) (ss : List ProgStmt) → inlined_row_nodes ns (hidden-the_row-ProgStmt-0 ss) ≡ inlined_list_nodes ns ss
unfolding prog_stmt_rows
stmts_row ns [] = refl
stmts_row ns (s ∷ ss) = ap (λ n. stmt_nodes ns s + n) (stmts_row ns ss) ∙ sym (sum_by-cons (stmt_nodes ns) s ss)

pub held_count : (ns : List ℕ) (o : Option ProgStmt) → inlined_held_nodes ns (back-ProgStmtKind-If-2 o) ≡ held_nodes ns o
unfolding prog_stmt_rows
held_count ns None = refl
held_count ns (Some s) = refl

pub stmt_for : (ns : List ℕ) (s : ProgStmt) (first : List ProgStmt) (e : Option ProgExpr) (o : Option ProgStmt) (y : ProgStmt) → s.kind ≡ stmt.For first e o y
    → stmt_nodes ns s ≡ 1 + inlined_list_nodes ns first + rest_option_nodes e + held_nodes ns o + stmt_nodes ns y
stmt_for ns s first e o y is = unfold prog_stmt_rows in omega (arith, ap (inlined_stmt_nodes ns) is, stmts_row ns first, held_count ns o)

-- ---- sums that stop

pub behind_stops : (a x : ℕ) → min (behind_nodes (min a (2 ^ 64 - 1)) (min x (2 ^ 64 - 1))) (2 ^ 64 - 1) ≡ min (behind_nodes a x) (2 ^ 64 - 1)
behind_stops zero x = omega arith
behind_stops (suc a) x = by_form (min (suc a) (2 ^ 64 - 1)) refl
  where
    by_form : (b : ℕ) → b ≡ min (suc a) (2 ^ 64 - 1) → min (behind_nodes b (min x (2 ^ 64 - 1))) (2 ^ 64 - 1) ≡ min (behind_nodes (suc a) x) (2 ^ 64 - 1)
    by_form zero e = absurd (omega (arith, e))
    by_form (suc b) e = omega (arith, e)

pub call_stops : (o : Option ℕ) (n a : ℕ) → o ≡ Some n → call_nodes o a ≡ n + a
call_stops o n a e = ap (λ i. call_nodes i a) e

-- a statement behind blocks, both counted with sums that stop
pub behind_joined : (r b own a x : ℕ) → r ≡ min (behind_nodes b own) (2 ^ 64 - 1) → b ≡ min a (2 ^ 64 - 1) → own ≡ min x (2 ^ 64 - 1) → r ≡ min (behind_nodes a x) (2 ^ 64 - 1)
behind_joined r b own a x h eb eo = h ∙ ap (λ n. min (behind_nodes n own) (2 ^ 64 - 1)) eb ∙ ap (λ n. min (behind_nodes (min a (2 ^ 64 - 1)) n) (2 ^ 64 - 1)) eo ∙ behind_stops a x
