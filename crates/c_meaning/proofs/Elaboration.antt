-- The typed tree of a syntax tree as a function, and that the relation of casts gives no other. What the relation gives nothing for has a number in its place.
use Rattle.std.proofs.Common.{◌≡◌, ℕ, List, [], ◌∷◌, length, Option, Some, None, refl, sym, ◌∙◌, ap}
use Rattle.std.specs.Prelude.{Bool, false}
use mathlib.Core.Former.{Count}
use Rattle.el_base.specs.declared.span.Span.{Span}
use Rattle.el_base.specs.declared.ty.Ty.{Ty}
use Rattle.el_base.specs.declared.ty.Ty.TheVariants.{I32}
use Rattle.c_ast.specs.declared.tree.Unary.{Unary}
use Rattle.c_ast.specs.declared.tree.Binary.{Binary}
use Rattle.c_ast.specs.declared.tree.Param.{Param}
use Rattle.c_ast.specs.declared.tree.Target.{Target}
use Rattle.c_ast.specs.declared.tree.Expr.{Expr}
use Rattle.c_ast.specs.declared.tree.ExprKind.{ExprKind, Row_of-Expr, end_of-Expr, more_of-Expr}
use Rattle.c_ast.specs.declared.tree.ExprKind as raw
use Rattle.c_ast.specs.declared.tree.ExprKind.TheBlock.{hidden-the_row-Expr-0}
use Rattle.c_ast.specs.declared.tree.Stmt.{Stmt}
use Rattle.c_ast.specs.declared.tree.StmtKind.{StmtKind, Row_of-Stmt, end_of-Stmt, more_of-Stmt, Held-StmtKind-If-2, back-StmtKind-If-2}
use Rattle.c_ast.specs.declared.tree.StmtKind as raw_stmt
use Rattle.c_ast.specs.declared.tree.StmtKind.TheBlock.{hidden-the_row-Stmt-0}
use Rattle.c_ast.specs.declared.tree.Tree.{Tree}
use Rattle.c_ast.specs.declared.typed.ArrayOf.{ArrayOf}
use Rattle.c_ast.specs.declared.typed.Object.TheVariants as object
use Rattle.c_ast.specs.declared.typed.TypedTarget.{TypedTarget}
use Rattle.c_ast.specs.declared.typed.TypedExpr.{TypedExpr}
use Rattle.c_ast.specs.declared.typed.TypedExprKind.TheVariants as typed
use Rattle.c_ast.specs.declared.typed.TypedStmt.{TypedStmt}
use Rattle.c_ast.specs.declared.typed.TypedStmtKind.TheVariants as act
use Rattle.c_ast.specs.declared.typed.Typed.{Typed}
use Rattle.c_ast.specs.ResultTypes.{promoted, usual, joint_type, result_type, unary_type}
use Rattle.c_ast.specs.Casts.{Declared, a_var, an_array, Context, declared_as, with_var, opened, closed, of_type, converted, left_type, right_type, CastsExpr, CastsExprs, CastsTarget, CastsOption, CastsStmt, CastsHeld, CastsStmts, act_at, assigned_type, parameters, first_context, Casts}
use Rattle.c_ast.specs.Casts as casts
use Rattle.c_meaning.proofs.TreeRows.{expr_rows, stmt_rows}

-- ---- expressions

abbrev pub no_expr : Span → TypedExpr
no_expr s = of_type (typed.Number 0) I32 s

abbrev pub name_as : Option Declared → Span → TypedExpr
name_as None s = no_expr s
name_as (Some (a_var v t)) s = of_type (typed.Var v) t s
name_as (Some (an_array a t ds)) s = no_expr s

abbrev pub element_as : Option Declared → List TypedExpr → Span → TypedExpr
element_as None fs s = no_expr s
element_as (Some (a_var v t)) fs s = of_type (typed.Var v) t s
element_as (Some (an_array a t ds)) fs s = of_type (typed.Element a fs) t s

abbrev pub unary_as : Unary → TypedExpr → Span → TypedExpr
unary_as op f s = of_type (typed.Unary op (converted (promoted f.ty) f)) (unary_type op (promoted f.ty)) s

abbrev pub binary_as : Binary → TypedExpr → TypedExpr → Span → TypedExpr
binary_as op f h s = of_type (typed.Binary op (converted (left_type op f.ty h.ty) f) (converted (right_type op f.ty h.ty) h)) (result_type op (joint_type op f.ty h.ty)) s

abbrev pub choose_as : TypedExpr → TypedExpr → TypedExpr → Span → TypedExpr
choose_as f h j s = of_type (typed.Choose f (converted (usual h.ty j.ty) h) (converted (usual h.ty j.ty) j)) (usual h.ty j.ty) s

abbrev mutual
  pub cast_kind : Context → ExprKind → Span → TypedExpr
  cast_kind c (raw.Number n t) s = of_type (typed.Number n) t s
  cast_kind c (raw.Name x) s = name_as (declared_as c x) s
  cast_kind c (raw.Element' x n row) s = element_as (declared_as c x) (cast_row c row) s
  cast_kind c (raw.Call' x n row) s = no_expr s
  cast_kind c (raw.Unary' op b (more_of-Expr e at end_of-Expr)) s = unary_as op (cast_kind c e at) s
  cast_kind c (raw.Cast' t b (more_of-Expr e at end_of-Expr)) s = of_type (typed.Cast false (cast_kind c e at)) t s
  cast_kind c (raw.Binary' op b (more_of-Expr e at end_of-Expr) b2 (more_of-Expr e2 at2 end_of-Expr)) s = binary_as op (cast_kind c e at) (cast_kind c e2 at2) s
  cast_kind c (raw.Choose' b (more_of-Expr e at end_of-Expr) b2 (more_of-Expr e2 at2 end_of-Expr) b3 (more_of-Expr e3 at3 end_of-Expr)) s =
      choose_as (cast_kind c e at) (cast_kind c e2 at2) (cast_kind c e3 at3) s

  pub cast_row : Context → {n : Count} → Row_of-Expr n → List TypedExpr
  cast_row c end_of-Expr = []
  cast_row c (more_of-Expr e at row) = cast_kind c e at ∷ cast_row c row

abbrev pub cast_expr : Context → Expr → TypedExpr
cast_expr c e = cast_kind c e.kind e.at

abbrev pub cast_exprs : Context → List Expr → List TypedExpr
cast_exprs c [] = []
cast_exprs c (e ∷ es) = cast_expr c e ∷ cast_exprs c es

abbrev pub cast_option : Context → Option Expr → Option TypedExpr
cast_option c None = None
cast_option c (Some e) = Some (cast_expr c e)

-- a row of expressions is cast as their list is
pub row_casts : (c : Context) (es : List Expr) → cast_row c (hidden-the_row-Expr-0 es) ≡ cast_exprs c es
unfolding expr_rows
row_casts c [] = refl
row_casts c (e ∷ es) = ap (λ fs. cast_expr c e ∷ fs) (row_casts c es)

mutual
  unfolding expr_rows

  pub one_expr : {c : Context} {e : Expr} {f : TypedExpr} → CastsExpr c e f → cast_expr c e ≡ f
  one_expr (casts.number c n t s) = refl
  one_expr (casts.name c x v t s h) = ap (λ d. name_as d s) h
  one_expr (casts.element c x a t ds es fs s h hs) =
      ap (λ d. element_as d (cast_row c (hidden-the_row-Expr-0 es)) s) h ∙ ap (λ gs. of_type (typed.Element a gs) t s) (row_casts c es ∙ one_exprs hs)
  one_expr (casts.whole c x v t s h) = ap (λ d. element_as d [] s) h
  one_expr (casts.unary c op e f s h) = ap (λ g. unary_as op g s) (one_expr h)
  one_expr (casts.cast c t e f s h) = ap (λ g. of_type (typed.Cast false g) t s) (one_expr h)
  one_expr (casts.binary c op e g f h s p q) = ap (λ u. binary_as op u (cast_expr c g) s) (one_expr p) ∙ ap (λ u. binary_as op f u s) (one_expr q)
  one_expr (casts.choose c e g i f h j s p q r) =
      ap (λ u. choose_as u (cast_expr c g) (cast_expr c i) s) (one_expr p) ∙ ap (λ u. choose_as f u (cast_expr c i) s) (one_expr q) ∙ ap (λ u. choose_as f h u s) (one_expr r)

  pub one_exprs : {c : Context} {es : List Expr} {fs : List TypedExpr} → CastsExprs c es fs → cast_exprs c es ≡ fs
  one_exprs (casts.no_more c) = refl
  one_exprs (casts.one_more c e f es fs p q) = ap (λ u. u ∷ cast_exprs c es) (one_expr p) ∙ ap (λ us. f ∷ us) (one_exprs q)

pub one_option : {c : Context} {e : Option Expr} {f : Option TypedExpr} → CastsOption c e f → cast_option c e ≡ f
one_option (casts.absent c) = refl
one_option (casts.present c e f h) = ap (λ g. Some g) (one_expr h)

-- ---- targets, with the type of their object

pub record TargetAs : Type 0 where
  pub to : TypedTarget
  pub ty : Ty

abbrev pub target_as : Option Declared → List TypedExpr → Span → TargetAs
target_as None fs s = record { to = record { to = object.Var 0; at = s; indices = [] }; ty = I32 }
target_as (Some (a_var v t)) fs s = record { to = record { to = object.Var v; at = s; indices = [] }; ty = t }
target_as (Some (an_array a t ds)) fs s = record { to = record { to = object.Array a; at = s; indices = fs }; ty = t }

abbrev pub cast_target : Context → Target → TargetAs
cast_target c t = target_as (declared_as c t.name) (cast_exprs c t.indices) t.at

pub one_target : {c : Context} {x : Target} {to : TypedTarget} {t : Ty} → CastsTarget c x to t → cast_target c x ≡ record { to = to; ty = t }
one_target (casts.to_var c x v t s h) = ap (λ d. target_as d [] s) h
one_target (casts.to_element c x a t ds e es fs s h hs) =
    ap (λ d. target_as d (cast_exprs c (e ∷ es)) s) h ∙ ap (λ gs. target_as (Some (an_array a t ds)) gs s) (one_exprs hs)

-- ---- statements: what they are cast to, and the context after them

pub record Done (A : Type 0) : Type 0 where
  pub value : A
  pub after : Context

abbrev pub value_as : Ty → Context → Option Expr → Option TypedExpr
value_as t c None = None
value_as t c (Some e) = Some (converted t (cast_expr c e))

abbrev pub return_as : Option Ty → Context → Option Expr → Option TypedExpr
return_as r c None = None
return_as None c (Some e) = None
return_as (Some t) c (Some e) = Some (converted t (cast_expr c e))

abbrev pub block_as : Context → Done (List TypedStmt) → Span → Done TypedStmt
block_as c d s = record { value = act_at (act.Block d.value) s; after = closed c d.after }

abbrev pub declare_as : Context → List ℕ → Ty → Option TypedExpr → Span → Done TypedStmt
declare_as c x t e s = record { value = act_at (act.Declare (length c.types) e) s; after = with_var x t c }

abbrev pub assign_as : Context → TargetAs → Option Binary → TypedExpr → Span → Done TypedStmt
assign_as c to op f s = record { value = act_at (act.Assign to.to op (converted (assigned_type op to.ty f.ty) f)) s; after = c }

abbrev pub step_as : Context → TargetAs → Bool → Span → Done TypedStmt
step_as c to up s = record { value = act_at (act.Step to.to up) s; after = c }

abbrev pub if_as : TypedExpr → Done TypedStmt → Done (Option TypedStmt) → Span → Done TypedStmt
if_as f d p s = record { value = act_at (act.If f d.value p.value) s; after = p.after }

abbrev pub while_as : Context → TypedExpr → Done TypedStmt → Span → Done TypedStmt
while_as c f d s = record { value = act_at (act.While f d.value) s; after = closed c d.after }

abbrev pub do_as : Context → Done TypedStmt → TypedExpr → Span → Done TypedStmt
do_as c d f s = record { value = act_at (act.DoWhile d.value f) s; after = closed c d.after }

abbrev pub for_as : Context → List TypedStmt → Option TypedExpr → Option TypedStmt → Done TypedStmt → Span → Done TypedStmt
for_as c ts f p d s = record { value = act_at (act.For ts f p d.value) s; after = closed c d.after }

abbrev pub held_as : Context → Done TypedStmt → Done (Option TypedStmt)
held_as c d = record { value = Some d.value; after = closed c d.after }

abbrev pub more_as : Done TypedStmt → Done (List TypedStmt) → Done (List TypedStmt)
more_as d e = record { value = d.value ∷ e.value; after = e.after }

abbrev mutual
  pub cast_stmt : Option Ty → StmtKind → Context → Span → Done TypedStmt
  cast_stmt r (raw_stmt.Block' n row) c s = block_as c (cast_stmts r row (opened c)) s
  cast_stmt r (raw_stmt.Declare x t e) c s = declare_as c x t (value_as t (with_var x t c) e) s
  cast_stmt r (raw_stmt.Assign target op e) c s = assign_as c (cast_target c target) op (cast_expr c e) s
  cast_stmt r (raw_stmt.Step target up) c s = step_as c (cast_target c target) up s
  cast_stmt r (raw_stmt.If' e b (more_of-Stmt a at end_of-Stmt) o) c s =
      let d = cast_stmt r a (opened c) at in if_as (cast_expr c e) d (cast_held r o (closed c d.after)) s
  cast_stmt r (raw_stmt.While' e b (more_of-Stmt a at end_of-Stmt)) c s = while_as c (cast_expr c e) (cast_stmt r a (opened c) at) s
  cast_stmt r (raw_stmt.DoWhile' b (more_of-Stmt a at end_of-Stmt) e) c s = do_as c (cast_stmt r a (opened c) at) (cast_expr c e) s
  cast_stmt r (raw_stmt.For' n row e o b (more_of-Stmt a at end_of-Stmt)) c s =
      let d = cast_stmts r row (opened c) in
      let p = cast_held r o d.after in
      for_as c d.value (cast_option d.after e) p.value (cast_stmt r a (opened p.after) at) s
  cast_stmt r raw_stmt.Break c s = record { value = act_at act.Break s; after = c }
  cast_stmt r raw_stmt.Continue c s = record { value = act_at act.Continue s; after = c }
  cast_stmt r (raw_stmt.Return e) c s = record { value = act_at (act.Return (return_as r c e)) s; after = c }
  cast_stmt r raw_stmt.Empty c s = record { value = act_at act.Empty s; after = c }

  pub cast_held : Option Ty → Held-StmtKind-If-2 → Context → Done (Option TypedStmt)
  cast_held r raw_stmt.None' c = record { value = None; after = c }
  cast_held r (raw_stmt.Some' b (more_of-Stmt a at end_of-Stmt)) c = held_as c (cast_stmt r a (opened c) at)

  pub cast_stmts : Option Ty → {n : Count} → Row_of-Stmt n → Context → Done (List TypedStmt)
  cast_stmts r end_of-Stmt c = record { value = []; after = c }
  cast_stmts r (more_of-Stmt a at row) c = let d = cast_stmt r a c at in more_as d (cast_stmts r row d.after)

mutual
  unfolding stmt_rows

  pub one_stmt : {r : Option Ty} {c : Context} {a : Stmt} {b : TypedStmt} {d : Context} → CastsStmt r c a b d → cast_stmt r a.kind c a.at ≡ record { value = b; after = d }
  one_stmt (casts.block r c d ss ts s h) = ap (λ u. block_as c u s) (one_stmts h)
  one_stmt (casts.declare r c x t s) = refl
  one_stmt (casts.declare_value r c x t e f s h) = ap (λ u. declare_as c x t (Some (converted t u)) s) (one_expr h)
  one_stmt (casts.assign r c target to t op e f s h k) =
      ap (λ u. assign_as c u op (cast_expr c e) s) (one_target h) ∙ ap (λ u. assign_as c (record { to = to; ty = t }) op u s) (one_expr k)
  one_stmt (casts.step r c target to t up s h) = ap (λ u. step_as c u up s) (one_target h)
  one_stmt (casts.choice r c d d2 e f a b o p s h i j) =
      ap (λ u. if_as u (cast_stmt r a.kind (opened c) a.at) (cast_held r (back-StmtKind-If-2 o) (closed c (cast_stmt r a.kind (opened c) a.at).after)) s) (one_expr h)
      ∙ ap (λ u. if_as f u (cast_held r (back-StmtKind-If-2 o) (closed c u.after)) s) (one_stmt i)
      ∙ ap (λ u. if_as f (record { value = b; after = d }) u s) (one_held j)
  one_stmt (casts.while_loop r c d e f a b s h i) =
      ap (λ u. while_as c u (cast_stmt r a.kind (opened c) a.at) s) (one_expr h) ∙ ap (λ u. while_as c f u s) (one_stmt i)
  one_stmt (casts.do_loop r c d e f a b s h i) =
      ap (λ u. do_as c u (cast_expr c e) s) (one_stmt h) ∙ ap (λ u. do_as c (record { value = b; after = d }) u s) (one_expr i)
  one_stmt (casts.for_loop r c d d2 d3 ss ts e f o p a b s h i j k) =
      ap (λ u. for_as c u.value (cast_option u.after e) (cast_held r (back-StmtKind-If-2 o) u.after).value (cast_stmt r a.kind (opened (cast_held r (back-StmtKind-If-2 o) u.after).after) a.at) s) (one_stmts h)
      ∙ ap (λ u. for_as c ts u (cast_held r (back-StmtKind-If-2 o) d).value (cast_stmt r a.kind (opened (cast_held r (back-StmtKind-If-2 o) d).after) a.at) s) (one_option i)
      ∙ ap (λ u. for_as c ts f u.value (cast_stmt r a.kind (opened u.after) a.at) s) (one_held j)
      ∙ ap (λ u. for_as c ts f p u s) (one_stmt k)
  one_stmt (casts.leaving r c s) = refl
  one_stmt (casts.continuing r c s) = refl
  one_stmt (casts.return_nothing r c s) = refl
  one_stmt (casts.return_value t c e f s h) = ap (λ u. record { value = act_at (act.Return (Some (converted t u))) s; after = c }) (one_expr h)
  one_stmt (casts.empty r c s) = refl

  pub one_held : {r : Option Ty} {c : Context} {o : Option Stmt} {p : Option TypedStmt} {d : Context} → CastsHeld r c o p d → cast_held r (back-StmtKind-If-2 o) c ≡ record { value = p; after = d }
  one_held (casts.no_statement r c) = refl
  one_held (casts.a_statement r c d a b h) = ap (λ u. held_as c u) (one_stmt h)

  pub one_stmts : {r : Option Ty} {c : Context} {ss : List Stmt} {ts : List TypedStmt} {d : Context} → CastsStmts r c ss ts d → cast_stmts r (hidden-the_row-Stmt-0 ss) c ≡ record { value = ts; after = d }
  one_stmts (casts.done r c) = refl
  one_stmts (casts.more r c d d2 a b ss ts h i) =
      ap (λ u. more_as u (cast_stmts r (hidden-the_row-Stmt-0 ss) u.after)) (one_stmt h) ∙ ap (λ u. more_as (record { value = b; after = d }) u) (one_stmts i)

-- ---- kernels

abbrev pub cast_body : Tree → Done (List TypedStmt)
cast_body tree = cast_stmts tree.result (hidden-the_row-Stmt-0 tree.body) (first_context tree.params)

abbrev pub cast_tree : Tree → Typed
cast_tree tree = record {
  name = tree.name;
  at = tree.at;
  result = tree.result;
  params = tree.params;
  vars = (cast_body tree).after.types;
  arrays = (parameters tree.params).arrays;
  body = (cast_body tree).value;
}

-- kernels of equal parts are equal
abbrev typed_of : List ℕ → Span → Option Ty → List Param → List Ty → List ArrayOf → List TypedStmt → Typed
typed_of n a r ps vs xs b = record { name = n; at = a; result = r; params = ps; vars = vs; arrays = xs; body = b }

typed_is : (k l : Typed) → k.name ≡ l.name → k.at ≡ l.at → k.result ≡ l.result → k.params ≡ l.params → k.vars ≡ l.vars → k.arrays ≡ l.arrays → k.body ≡ l.body → k ≡ l
typed_is k l n a r p v x b =
    ap (λ u. typed_of u k.at k.result k.params k.vars k.arrays k.body) n
    ∙ ap (λ u. typed_of l.name u k.result k.params k.vars k.arrays k.body) a
    ∙ ap (λ u. typed_of l.name l.at u k.params k.vars k.arrays k.body) r
    ∙ ap (λ u. typed_of l.name l.at l.result u k.vars k.arrays k.body) p
    ∙ ap (λ u. typed_of l.name l.at l.result l.params u k.arrays k.body) v
    ∙ ap (λ u. typed_of l.name l.at l.result l.params l.vars u k.body) x
    ∙ ap (λ u. typed_of l.name l.at l.result l.params l.vars l.arrays u) b

pub one_tree : {tree : Tree} {k : Typed} → Casts tree k → k ≡ cast_tree tree
one_tree {tree} {k} h =
    let e : cast_body tree ≡ record { value = k.body; after = h.last } = one_stmts h.body_casts in
    let b : k.body ≡ (cast_body tree).value = ap (λ u. u.value) (sym e) in
    let v : k.vars ≡ (cast_body tree).after.types = h.vars_are ∙ ap (λ u. u.after.types) (sym e) in
    typed_is k (cast_tree tree) h.same_name h.same_place h.same_result h.same_params v h.arrays_are b
