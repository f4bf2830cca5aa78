-- A syntax tree that keeps the rules on names has a typed tree: that of the function is one by the relation of casts.
use Rattle.std.proofs.Common.{◌≡◌, ℕ, ◌<◌, List, [], ◌∷◌, length, Option, Some, None, refl, sym, ◌∙◌, ap, subst, arith}
use Rattle.std.proofs.lemmas.List.Elements.{All-head, All-tail}
use Rattle.std.specs.Prelude.{Bool, true, false, All}
use mathlib.Core.Former.{Count}
use Rattle.el_base.specs.declared.span.Span.{Span}
use Rattle.el_base.specs.declared.ty.Ty.{Ty}
use Rattle.c_ast.specs.declared.tree.Target.{Target}
use Rattle.c_ast.specs.declared.tree.Expr.{Expr}
use Rattle.c_ast.specs.declared.tree.ExprKind.{ExprKind, Row_of-Expr, end_of-Expr, more_of-Expr}
use Rattle.c_ast.specs.declared.tree.ExprKind as raw
use Rattle.c_ast.specs.declared.tree.ExprKind.TheVariants as expr
use Rattle.c_ast.specs.declared.tree.Stmt.{Stmt}
use Rattle.c_ast.specs.declared.tree.StmtKind.{StmtKind, Row_of-Stmt, end_of-Stmt, more_of-Stmt, Held-StmtKind-If-2}
use Rattle.c_ast.specs.declared.tree.StmtKind as raw_stmt
use Rattle.c_ast.specs.declared.tree.StmtKind.TheVariants as stmt
use Rattle.c_ast.specs.declared.tree.StmtKind.TheBlock.{hidden-the_row-Stmt-0}
use Rattle.c_ast.specs.declared.tree.Tree.{Tree}
use Rattle.c_ast.specs.declared.typed.TypedExpr.{TypedExpr}
use Rattle.c_ast.specs.declared.typed.TypedStmtKind.TheVariants as act
use Rattle.c_ast.specs.Typing.{Names, IsReturnable, TypingKind, TypingRow, TypingExpr, TypingOption, TypingTarget, TypingStmt, TypingHeld, TypingStmts, TypingList, names_after, row_length, Typing}
use Rattle.c_ast.specs.Casts.{Declared, a_var, an_array, Context, declared_as, with_var, opened, closed, CastsExpr, CastsExprs, CastsTarget, CastsOption, expr_at, CastsStmt, CastsHeld, CastsStmts, stmt_at, act_at, first_context, Casts}
use Rattle.c_ast.specs.Casts as casts
use Rattle.c_meaning.proofs.Elaboration.{name_as, element_as, cast_kind, cast_row, cast_expr, cast_exprs, cast_option, target_as, cast_target, value_as, return_as, cast_stmt, cast_held, cast_stmts, cast_body, cast_tree}
use Rattle.c_meaning.proofs.Contexts.{sorts_in, sorts_of, UsedAs, usable, uncallable, with_name_is, held_scopes, names_after_is, names_after_row_is, first_names}
use Rattle.c_meaning.proofs.TreeShapes.{exprs_of, stmts_of, element_is, block_is, held_of, if_is, for_is, items_are}
use Rattle.c_meaning.proofs.TreeRows.{expr_rows, stmt_rows}

-- ---- lists

pub not_empty : {X : Type 0} (x : X) (xs : List X) → length (x ∷ xs) ≡ 0 → ⊥
not_empty x xs e = omega arith

pub not_below_zero : 0 < 0 → ⊥
not_below_zero l = omega arith

-- ---- expressions

name_casts : (c : Context) (x : List ℕ) (s : Span) (o : Option Declared) → declared_as c x ≡ o → UsedAs 0 o → CastsExpr c (expr_at (expr.Name x) s) (name_as o s)
name_casts c x s None e u = absurd u
name_casts c x s (Some (a_var v t)) e u = casts.name c x v t s e
name_casts c x s (Some (an_array a t ds)) e u = absurd (not_below_zero u.0)

element_casts : (c : Context) (x : List ℕ) (s : Span) (es : List Expr) (fs : List TypedExpr) (o : Option Declared) → declared_as c x ≡ o → UsedAs (length es) o → CastsExprs c es fs
    → CastsExpr c (expr_at (expr.Element x es) s) (element_as o fs s)
element_casts c x s es fs None e u h = absurd u
element_casts c x s [] fs (Some (a_var v t)) e u h = casts.whole c x v t s e
element_casts c x s (f ∷ es) fs (Some (a_var v t)) e u h = absurd (not_empty f es u)
element_casts c x s es fs (Some (an_array a t ds)) e u h = casts.element c x a t ds es fs s e h

pub row_length_is : {n : Count} (row : Row_of-Expr n) → row_length row ≡ length (exprs_of row)
row_length_is end_of-Expr = refl
row_length_is (more_of-Expr e at row) = let r : row_length row ≡ length (exprs_of row) = row_length_is row in omega arith

mutual
  unfolding expr_rows

  pub kind_casts : (c : Context) (k : ExprKind) (s : Span) → TypingKind (sorts_of c) k → CastsExpr c (record { kind = k; at = s }) (cast_kind c k s)
  kind_casts c (raw.Number n t) s h = casts.number c n t s
  kind_casts c (raw.Name x) s h = name_casts c x s (declared_as c x) refl (usable c x 0 h)
  kind_casts c (raw.Element' x n row) s h =
      subst (λ k. CastsExpr c (record { kind = k; at = s }) (element_as (declared_as c x) (cast_row c row) s)) (element_is x n row)
      (element_casts c x s (exprs_of row) (cast_row c row) (declared_as c x) refl
      (subst (λ m. UsedAs m (declared_as c x)) (row_length_is row) (usable c x (row_length row) h.0)) (row_casts c row h.1))
  kind_casts c (raw.Call' x n row) s h = absurd (uncallable c x (row_length row) h.0)
  kind_casts c (raw.Unary' op b (more_of-Expr e at end_of-Expr)) s h = casts.unary c op (record { kind = e; at = at }) (cast_kind c e at) s (kind_casts c e at h)
  kind_casts c (raw.Cast' t b (more_of-Expr e at end_of-Expr)) s h = casts.cast c t (record { kind = e; at = at }) (cast_kind c e at) s (kind_casts c e at h)
  kind_casts c (raw.Binary' op b (more_of-Expr e at end_of-Expr) b2 (more_of-Expr e2 at2 end_of-Expr)) s h =
      casts.binary c op (record { kind = e; at = at }) (record { kind = e2; at = at2 }) (cast_kind c e at) (cast_kind c e2 at2) s (kind_casts c e at h.0) (kind_casts c e2 at2 h.1)
  kind_casts c (raw.Choose' b (more_of-Expr e at end_of-Expr) b2 (more_of-Expr e2 at2 end_of-Expr) b3 (more_of-Expr e3 at3 end_of-Expr)) s h =
      casts.choose c (record { kind = e; at = at }) (record { kind = e2; at = at2 }) (record { kind = e3; at = at3 }) (cast_kind c e at) (cast_kind c e2 at2) (cast_kind c e3 at3) s
      (kind_casts c e at h.0) (kind_casts c e2 at2 h.1) (kind_casts c e3 at3 h.2)

  pub row_casts : (c : Context) {n : Count} (row : Row_of-Expr n) → TypingRow (sorts_of c) row → CastsExprs c (exprs_of row) (cast_row c row)
  row_casts c end_of-Expr h = casts.no_more c
  row_casts c (more_of-Expr e at row) h = casts.one_more c (record { kind = e; at = at }) (cast_kind c e at) (exprs_of row) (cast_row c row) (kind_casts c e at h.0) (row_casts c row h.1)

expr_casts : (c : Context) (e : Expr) → TypingExpr (sorts_of c) e → CastsExpr c e (cast_expr c e)
expr_casts c e h = kind_casts c e.kind e.at h

exprs_cast : (c : Context) (es : List Expr) → All (TypingExpr (sorts_of c)) es → CastsExprs c es (cast_exprs c es)
exprs_cast c [] h = casts.no_more c
exprs_cast c (e ∷ es) h = casts.one_more c e (cast_expr c e) es (cast_exprs c es)
    (expr_casts c e (All-head (TypingExpr (sorts_of c)) e es h)) (exprs_cast c es (All-tail (TypingExpr (sorts_of c)) e es h))

option_casts : (c : Context) (e : Option Expr) → TypingOption (sorts_of c) e → CastsOption c e (cast_option c e)
option_casts c None h = casts.absent c
option_casts c (Some e) h = casts.present c e (cast_expr c e) (expr_casts c e h)

-- ---- targets

target_casts : (c : Context) (x : List ℕ) (s : Span) (es : List Expr) (fs : List TypedExpr) (o : Option Declared) → declared_as c x ≡ o → UsedAs (length es) o → CastsExprs c es fs
    → CastsTarget c (record { name = x; at = s; indices = es }) (target_as o fs s).to (target_as o fs s).ty
target_casts c x s es fs None e u h = absurd u
target_casts c x s [] fs (Some (a_var v t)) e u h = casts.to_var c x v t s e
target_casts c x s (f ∷ es) fs (Some (a_var v t)) e u h = absurd (not_empty f es u)
target_casts c x s [] fs (Some (an_array a t ds)) e u h = absurd (not_below_zero u.0)
target_casts c x s (f ∷ es) fs (Some (an_array a t ds)) e u h = casts.to_element c x a t ds f es fs s e h

whole_target_casts : (c : Context) (t : Target) → TypingTarget (sorts_of c) t → CastsTarget c t (cast_target c t).to (cast_target c t).ty
whole_target_casts c t h =
    target_casts c t.name t.at t.indices (cast_exprs c t.indices) (declared_as c t.name) refl (usable c t.name (length t.indices) h.0) (exprs_cast c t.indices h.1)

-- ---- statements

declare_casts : (r : Option Ty) (c : Context) (x : List ℕ) (t : Ty) (e : Option Expr) (s : Span) → TypingOption (sorts_of (with_var x t c)) e
    → CastsStmt r c (stmt_at (stmt.Declare x t e) s) (act_at (act.Declare (length c.types) (value_as t (with_var x t c) e)) s) (with_var x t c)
declare_casts r c x t None s h = casts.declare r c x t s
declare_casts r c x t (Some e) s h = casts.declare_value r c x t e (cast_expr (with_var x t c) e) s (expr_casts (with_var x t c) e h)

return_casts : (r : Option Ty) (c : Context) (e : Option Expr) (s : Span) → IsReturnable r e → TypingOption (sorts_of c) e
    → CastsStmt r c (stmt_at (stmt.Return e) s) (act_at (act.Return (return_as r c e)) s) c
return_casts r c None s i h = casts.return_nothing r c s
return_casts None c (Some e) s i h = absurd i
return_casts (Some t) c (Some e) s i h = casts.return_value t c e (cast_expr c e) s (expr_casts c e h)

mutual
  unfolding stmt_rows

  pub stmt_casts : (r : Option Ty) (loop : Bool) (k : StmtKind) (c : Context) (s : Span) → TypingStmt k r loop (sorts_of c)
      → CastsStmt r c (record { kind = k; at = s }) (cast_stmt r k c s).value (cast_stmt r k c s).after
  stmt_casts r loop (raw_stmt.Block' n row) c s h =
      let d = cast_stmts r row (opened c) in
      subst (λ k. CastsStmt r c (record { kind = k; at = s }) (act_at (act.Block d.value) s) (closed c d.after)) (block_is n row)
      (casts.block r c d.after (stmts_of row) d.value s (stmts_cast r loop row (opened c) h))
  stmt_casts r loop (raw_stmt.Declare x t e) c s h = declare_casts r c x t e s (subst (λ ns. TypingOption ns e) (with_name_is c x t) h.1)
  stmt_casts r loop (raw_stmt.Assign target op e) c s h =
      casts.assign r c target (cast_target c target).to (cast_target c target).ty op e (cast_expr c e) s (whole_target_casts c target h.0) (expr_casts c e h.1)
  stmt_casts r loop (raw_stmt.Step target up) c s h = casts.step r c target (cast_target c target).to (cast_target c target).ty up s (whole_target_casts c target h)
  stmt_casts r loop (raw_stmt.If' e b (more_of-Stmt a at end_of-Stmt) o) c s h =
      let d = cast_stmt r a (opened c) at in
      let p = cast_held r o (closed c d.after) in
      subst (λ k. CastsStmt r c (record { kind = k; at = s }) (act_at (act.If (cast_expr c e) d.value p.value) s) p.after) (if_is e b a at o)
      (casts.choice r c d.after p.after e (cast_expr c e) (record { kind = a; at = at }) d.value (held_of o) p.value s
      (expr_casts c e h.0) (stmt_casts r loop a (opened c) at h.1) (held_casts r loop o (closed c d.after) h.2))
  stmt_casts r loop (raw_stmt.While' e b (more_of-Stmt a at end_of-Stmt)) c s h =
      let d = cast_stmt r a (opened c) at in
      casts.while_loop r c d.after e (cast_expr c e) (record { kind = a; at = at }) d.value s (expr_casts c e h.0) (stmt_casts r true a (opened c) at h.1)
  stmt_casts r loop (raw_stmt.DoWhile' b (more_of-Stmt a at end_of-Stmt) e) c s h =
      let d = cast_stmt r a (opened c) at in
      casts.do_loop r c d.after e (cast_expr c e) (record { kind = a; at = at }) d.value s (stmt_casts r true a (opened c) at h.0) (expr_casts c e h.1)
  stmt_casts r loop (raw_stmt.For' n row e o b (more_of-Stmt a at end_of-Stmt)) c s h =
      let d = cast_stmts r row (opened c) in
      let p = cast_held r o d.after in
      let q = cast_stmt r a (opened p.after) at in
      let names = names_after_row_is r row (opened c) in
      subst (λ k. CastsStmt r c (record { kind = k; at = s }) (act_at (act.For d.value (cast_option d.after e) p.value q.value) s) (closed c q.after)) (for_is n row e o b a at)
      (casts.for_loop r c d.after p.after q.after (stmts_of row) d.value e (cast_option d.after e) (held_of o) p.value (record { kind = a; at = at }) q.value s
      (stmts_cast r false row (opened c) h.0)
      (option_casts d.after e (subst (λ ns. TypingOption ns e) names h.1))
      (held_casts r false o d.after (subst (λ ns. TypingHeld o r false ns) names h.2))
      (stmt_casts r true a (opened p.after) at (subst (λ ns. TypingStmt a r true ([] ∷ ns)) (names ∙ ap sorts_in (sym (held_scopes r o d.after))) h.3)))
  stmt_casts r loop raw_stmt.Break c s h = casts.leaving r c s
  stmt_casts r loop raw_stmt.Continue c s h = casts.continuing r c s
  stmt_casts r loop (raw_stmt.Return e) c s h = return_casts r c e s h.0 h.1
  stmt_casts r loop raw_stmt.Empty c s h = casts.empty r c s

  pub held_casts : (r : Option Ty) (loop : Bool) (o : Held-StmtKind-If-2) (c : Context) → TypingHeld o r loop (sorts_of c) → CastsHeld r c (held_of o) (cast_held r o c).value (cast_held r o c).after
  held_casts r loop raw_stmt.None' c h = casts.no_statement r c
  held_casts r loop (raw_stmt.Some' b (more_of-Stmt a at end_of-Stmt)) c h =
      let d = cast_stmt r a (opened c) at in casts.a_statement r c d.after (record { kind = a; at = at }) d.value (stmt_casts r loop a (opened c) at h)

  pub stmts_cast : (r : Option Ty) (loop : Bool) {n : Count} (row : Row_of-Stmt n) (c : Context) → TypingStmts row r loop (sorts_of c) → CastsStmts r c (stmts_of row) (cast_stmts r row c).value (cast_stmts r row c).after
  stmts_cast r loop end_of-Stmt c h = casts.done r c
  stmts_cast r loop (more_of-Stmt a at row) c h =
      let d = cast_stmt r a c at in
      let e = cast_stmts r row d.after in
      casts.more r c d.after e.after (record { kind = a; at = at }) d.value (stmts_of row) e.value
      (stmt_casts r loop a c at h.0) (stmts_cast r loop row d.after (subst (λ ns. TypingStmts row r loop ns) (names_after_is r a c at) h.1))

-- ---- kernels

-- what holds of a list of statements holds of the row that holds it
pub list_typing : (ss : List Stmt) (r : Option Ty) (loop : Bool) (names : Names) → TypingList ss r loop names → TypingStmts (hidden-the_row-Stmt-0 ss) r loop names
unfolding stmt_rows
list_typing [] r loop names h = tt
list_typing (s ∷ ss) r loop names h = (h.0, list_typing ss r loop (names_after names s.kind) h.1)

pub body_typing : (tree : Tree) → Typing tree → TypingStmts (hidden-the_row-Stmt-0 tree.body) tree.result false (sorts_of (first_context tree.params))
body_typing tree h = subst (λ ns. TypingStmts (hidden-the_row-Stmt-0 tree.body) tree.result false ns) (sym (first_names tree.params)) (list_typing tree.body tree.result false _ h.body_keeps)

pub tree_casts : (tree : Tree) → Typing tree → Casts tree (cast_tree tree)
tree_casts tree h = record {
  same_name = refl;
  same_place = refl;
  same_result = refl;
  same_params = refl;
  arrays_are = refl;
  last = (cast_body tree).after;
  body_casts =
      subst (λ ss. CastsStmts tree.result (first_context tree.params) ss (cast_body tree).value (cast_body tree).after) (items_are tree.body)
      (stmts_cast tree.result false (hidden-the_row-Stmt-0 tree.body) (first_context tree.params) (body_typing tree h));
  vars_are = refl;
}
