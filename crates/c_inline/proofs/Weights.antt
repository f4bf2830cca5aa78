-- How much is left to walk: a call weighs what its helper's block weighs, so that each part of a walk, also the block of a call, weighs less than the whole.
use Rattle.std.proofs.Common.{◌≡◌, ℕ, zero, suc, ◌+◌, ◌<◌, ◌≤◌, List, [], ◌∷◌, ◌++◌, length, get_or, refl, sym, ◌∙◌, ap, arith}
use Rattle.std.specs.Prelude.{slice_get, sum_by, Option, Some, None}
use mathlib.Core.Former.{Count}
use Rattle.std.proofs.lemmas.List.Sums.{sum_by-cons}
use Rattle.c_ast.specs.declared.program.ProgExpr.{ProgExpr}
use Rattle.c_ast.specs.declared.program.ProgExprKind.{ProgExprKind, Row_of-ProgExpr, end_of-ProgExpr, more_of-ProgExpr}
use Rattle.c_ast.specs.declared.program.ProgExprKind as tree
use Rattle.c_ast.specs.declared.program.ProgExprKind.TheVariants as expr
use Rattle.c_ast.specs.declared.program.ProgExprKind.TheBlock.{hidden-the_row-ProgExpr-0}
use Rattle.c_ast.specs.declared.program.ProgStmt.{ProgStmt}
use Rattle.c_ast.specs.declared.program.ProgStmtKind.{ProgStmtKind, Row_of-ProgStmt, end_of-ProgStmt, more_of-ProgStmt, Held-ProgStmtKind-If-2, back-ProgStmtKind-If-2}
use Rattle.c_ast.specs.declared.program.ProgStmtKind as act
use Rattle.c_ast.specs.declared.program.ProgStmtKind.TheVariants as stmt
use Rattle.c_ast.specs.declared.program.ProgStmtKind.TheBlock.{hidden-the_row-ProgStmt-0}
use Rattle.c_ast.specs.declared.program.TypedHelper.{TypedHelper}
use Rattle.c_calls.proofs.TreeRows.{prog_expr_rows, prog_stmt_rows}

abbrev pub weight_at : Option ℕ → ℕ
weight_at None = 0
weight_at (Some n) = n

abbrev mutual
  pub kind_weight : List ℕ → ProgExprKind → ℕ
  kind_weight ws (tree.Number n) = 1
  kind_weight ws (tree.Var v) = 1
  kind_weight ws (tree.Element' a n row) = 1 + row_weight ws row
  kind_weight ws (tree.Unary' op x (more_of-ProgExpr e t at end_of-ProgExpr)) = 1 + kind_weight ws e
  kind_weight ws (tree.Cast' implied x (more_of-ProgExpr e t at end_of-ProgExpr)) = 1 + kind_weight ws e
  kind_weight ws (tree.Binary' op x (more_of-ProgExpr e t at end_of-ProgExpr) x2 (more_of-ProgExpr e2 t2 at2 end_of-ProgExpr)) = 1 + kind_weight ws e + kind_weight ws e2
  kind_weight ws (tree.Choose' x (more_of-ProgExpr e t at end_of-ProgExpr) x2 (more_of-ProgExpr e2 t2 at2 end_of-ProgExpr) x3 (more_of-ProgExpr e3 t3 at3 end_of-ProgExpr)) =
      1 + kind_weight ws e + kind_weight ws e2 + kind_weight ws e3
  kind_weight ws (tree.Call' h n row) = 1 + row_weight ws row + weight_at (slice_get ws h)

  pub row_weight : List ℕ → {n : Count} → Row_of-ProgExpr n → ℕ
  row_weight ws end_of-ProgExpr = 0
  row_weight ws (more_of-ProgExpr e t at row) = kind_weight ws e + row_weight ws row

abbrev pub expr_weight : List ℕ → ProgExpr → ℕ
expr_weight ws e = kind_weight ws e.kind

abbrev pub exprs_weight : List ℕ → List ProgExpr → ℕ
exprs_weight ws es = sum_by (expr_weight ws) es

abbrev pub option_weight : List ℕ → Option ProgExpr → ℕ
option_weight ws None = 0
option_weight ws (Some e) = expr_weight ws e

abbrev mutual
  pub act_weight : List ℕ → ProgStmtKind → ℕ
  act_weight ws (act.Block' n row) = 1 + acts_weight ws row
  act_weight ws (act.Declare v init) = 1 + option_weight ws init
  act_weight ws (act.Assign target op e) = 1 + exprs_weight ws target.indices + expr_weight ws e
  act_weight ws (act.Step target up) = 1 + exprs_weight ws target.indices
  act_weight ws (act.If' cond x (more_of-ProgStmt s at end_of-ProgStmt) o) = 1 + expr_weight ws cond + act_weight ws s + held_act_weight ws o
  act_weight ws (act.While' cond x (more_of-ProgStmt s at end_of-ProgStmt)) = 1 + expr_weight ws cond + act_weight ws s
  act_weight ws (act.DoWhile' x (more_of-ProgStmt s at end_of-ProgStmt) cond) = 1 + act_weight ws s + expr_weight ws cond
  act_weight ws (act.For' n first cond o x (more_of-ProgStmt s at end_of-ProgStmt)) = 1 + acts_weight ws first + option_weight ws cond + held_act_weight ws o + act_weight ws s
  act_weight ws (act.Return e) = 1 + option_weight ws e
  act_weight ws _ = 1

  pub held_act_weight : List ℕ → Held-ProgStmtKind-If-2 → ℕ
  held_act_weight ws act.None' = 0
  held_act_weight ws (act.Some' x (more_of-ProgStmt s at end_of-ProgStmt)) = act_weight ws s

  pub acts_weight : List ℕ → {n : Count} → Row_of-ProgStmt n → ℕ
  acts_weight ws end_of-ProgStmt = 0
  acts_weight ws (more_of-ProgStmt s at row) = act_weight ws s + acts_weight ws row

abbrev pub stmt_weight : List ℕ → ProgStmt → ℕ
stmt_weight ws s = act_weight ws s.kind

abbrev pub stmts_weight : List ℕ → List ProgStmt → ℕ
stmts_weight ws ss = sum_by (stmt_weight ws) ss

abbrev pub held_weight : List ℕ → Option ProgStmt → ℕ
held_weight ws None = 0
held_weight ws (Some s) = stmt_weight ws s

abbrev pub helper_weight : List ℕ → TypedHelper → ℕ
helper_weight ws h = 1 + stmts_weight ws h.body + expr_weight ws h.value

abbrev pub weights : List ℕ → List TypedHelper → List ℕ
weights ws [] = ws
weights ws (h ∷ hs) = weights (ws ++ helper_weight ws h ∷ []) hs

-- behind these helpers
abbrev pub weights_of : List TypedHelper → List ℕ
weights_of hs = weights [] hs

-- ---- parts

row_is : (ws : List ℕ) (es : List ProgExpr) → row_weight ws (hidden-the_row-ProgExpr-0 es) ≡ exprs_weight ws es
unfolding prog_expr_rows
row_is ws [] = refl
row_is ws (e ∷ es) = ap (λ n. expr_weight ws e + n) (row_is ws es) ∙ sym (sum_by-cons (expr_weight ws) e es)

pub w_element : (ws : List ℕ) (e : ProgExpr) (a : ℕ) (es : List ProgExpr) → e.kind ≡ expr.Element a es → expr_weight ws e ≡ 1 + exprs_weight ws es
w_element ws e a es is = unfold prog_expr_rows in ap (kind_weight ws) is ∙ ap (λ n. 1 + n) (row_is ws es)

pub w_call : (ws : List ℕ) (e : ProgExpr) (h : ℕ) (es : List ProgExpr) → e.kind ≡ expr.Call h es → expr_weight ws e ≡ 1 + exprs_weight ws es + weight_at (slice_get ws h)
w_call ws e h es is = unfold prog_expr_rows in omega (arith, ap (kind_weight ws) is, row_is ws es)

acts_is : (ws : List ℕ) (ss : List ProgStmt) → acts_weight ws (hidden-the_row-ProgStmt-0 ss) ≡ stmts_weight ws ss
unfolding prog_stmt_rows
acts_is ws [] = refl
acts_is ws (s ∷ ss) = ap (λ n. stmt_weight ws s + n) (acts_is ws ss) ∙ sym (sum_by-cons (stmt_weight ws) s ss)

held_is : (ws : List ℕ) (o : Option ProgStmt) → held_act_weight ws (back-ProgStmtKind-If-2 o) ≡ held_weight ws o
unfolding prog_stmt_rows
held_is ws None = refl
held_is ws (Some s) = refl

pub w_block : (ws : List ℕ) (s : ProgStmt) (ss : List ProgStmt) → s.kind ≡ stmt.Block ss → stmt_weight ws s ≡ 1 + stmts_weight ws ss
w_block ws s ss is = unfold prog_stmt_rows in ap (act_weight ws) is ∙ ap (λ n. 1 + n) (acts_is ws ss)

pub w_for : (ws : List ℕ) (s : ProgStmt) (first : List ProgStmt) (e : Option ProgExpr) (o : Option ProgStmt) (y : ProgStmt) → s.kind ≡ stmt.For first e o y
    → stmt_weight ws s ≡ 1 + stmts_weight ws first + option_weight ws e + held_weight ws o + stmt_weight ws y
w_for ws s first e o y is = unfold prog_stmt_rows in omega (arith, ap (act_weight ws) is, acts_is ws first, held_is ws o)

-- ---- items of lists

item_less : {A : Type 0} (f : A → ℕ) (xs : List A) (i : ℕ) (d : A) → i < length xs → f (get_or xs i d) ≤ sum_by f xs
item_less f [] i d h = absurd (omega (arith, h))
item_less f (x ∷ xs) zero d h = omega (arith, sum_by-cons f x xs)
item_less f (x ∷ xs) (suc i) d h = omega (arith, sum_by-cons f x xs, item_less f xs i d (omega (arith, h)))
