-- The typed program of a program as a function, and that the relation of casts gives no other. What the relation gives nothing for has a number in its place.
use Rattle.std.proofs.Common.{◌≡◌, ℕ, List, [], ◌∷◌, ◌++◌, length, map, Option, Some, None, refl, sym, ◌∙◌, ap}
use Rattle.std.specs.Prelude.{Bool, false}
use mathlib.Core.Former.{Count}
use Rattle.el_base.specs.declared.span.Span.{Span}
use Rattle.el_base.specs.declared.ty.Ty.{Ty}
use Rattle.el_base.specs.declared.ty.Ty.TheVariants.{I32}
use Rattle.c_ast.specs.declared.tree.Unary.{Unary}
use Rattle.c_ast.specs.declared.tree.Binary.{Binary}
use Rattle.c_ast.specs.declared.tree.Param.{Param}
use Rattle.c_ast.specs.declared.tree.Target.{Target}
use Rattle.c_ast.specs.declared.tree.Expr.{Expr}
use Rattle.c_ast.specs.declared.tree.ExprKind.{ExprKind, Row_of-Expr, end_of-Expr, more_of-Expr}
use Rattle.c_ast.specs.declared.tree.ExprKind as raw
use Rattle.c_ast.specs.declared.tree.ExprKind.TheBlock.{hidden-the_row-Expr-0}
use Rattle.c_ast.specs.declared.tree.Stmt.{Stmt}
use Rattle.c_ast.specs.declared.tree.StmtKind.{StmtKind, Row_of-Stmt, end_of-Stmt, more_of-Stmt, Held-StmtKind-If-2, back-StmtKind-If-2}
use Rattle.c_ast.specs.declared.tree.StmtKind as raw_stmt
use Rattle.c_ast.specs.declared.tree.StmtKind.TheBlock.{hidden-the_row-Stmt-0}
use Rattle.c_ast.specs.declared.tree.Helper.{Helper}
use Rattle.c_ast.specs.declared.tree.Program.{Program}
use Rattle.c_ast.specs.declared.typed.ArrayOf.{ArrayOf}
use Rattle.c_ast.specs.declared.typed.Object.TheVariants as object
use Rattle.c_ast.specs.declared.program.ProgTarget.{ProgTarget}
use Rattle.c_ast.specs.declared.program.ProgExpr.{ProgExpr}
use Rattle.c_ast.specs.declared.program.ProgExprKind.TheVariants as typed
use Rattle.c_ast.specs.declared.program.ProgStmt.{ProgStmt}
use Rattle.c_ast.specs.declared.program.ProgStmtKind.TheVariants as act
use Rattle.c_ast.specs.declared.program.ProgTree.{ProgTree}
use Rattle.c_ast.specs.declared.program.TypedHelper.{TypedHelper}
use Rattle.c_ast.specs.declared.program.TypedProgram.{TypedProgram}
use Rattle.c_ast.specs.ResultTypes.{promoted, usual, joint_type, result_type, unary_type}
use Rattle.c_ast.specs.Casts.{Declared, a_var, an_array, Context, declared_as, with_var, opened, closed, left_type, right_type, assigned_type, parameters, first_context}
use Rattle.c_ast.specs.ProgramCasts.{Known, helper_of, known_of, prog_of, prog_converted, prog_converted_all, CastsCallExpr, CastsCallExprs, CastsCallTarget, CastsCallOption, prog_at, CastsCallStmt, CastsCallHeld, CastsCallStmts, CastsHelper, CastsHelpers, CastsProgram}
use Rattle.c_ast.specs.ProgramCasts as casts
use Rattle.c_calls.specs.Texts.{TypedIsOne}
use Rattle.c_meaning.proofs.TreeRows.{expr_rows, stmt_rows}

-- ---- expressions

abbrev pub no_expr : Span → ProgExpr
no_expr s = prog_of (typed.Number 0) I32 s

abbrev pub name_as : Option Declared → Span → ProgExpr
name_as None s = no_expr s
name_as (Some (a_var v t)) s = prog_of (typed.Var v) t s
name_as (Some (an_array a t ds)) s = no_expr s

abbrev pub element_as : Option Declared → List ProgExpr → Span → ProgExpr
element_as None fs s = no_expr s
element_as (Some (a_var v t)) fs s = prog_of (typed.Var v) t s
element_as (Some (an_array a t ds)) fs s = prog_of (typed.Element a fs) t s

abbrev pub call_as : Option (ℕ × Known) → List ProgExpr → Span → ProgExpr
call_as None fs s = no_expr s
call_as (Some (j, g)) fs s = prog_of (typed.Call j (prog_converted_all g.params fs)) g.result s

abbrev pub unary_as : Unary → ProgExpr → Span → ProgExpr
unary_as op f s = prog_of (typed.Unary op (prog_converted (promoted f.ty) f)) (unary_type op (promoted f.ty)) s

abbrev pub binary_as : Binary → ProgExpr → ProgExpr → Span → ProgExpr
binary_as op f h s = prog_of (typed.Binary op (prog_converted (left_type op f.ty h.ty) f) (prog_converted (right_type op f.ty h.ty) h)) (result_type op (joint_type op f.ty h.ty)) s

abbrev pub choose_as : ProgExpr → ProgExpr → ProgExpr → Span → ProgExpr
choose_as f h j s = prog_of (typed.Choose f (prog_converted (usual h.ty j.ty) h) (prog_converted (usual h.ty j.ty) j)) (usual h.ty j.ty) s

abbrev mutual
  pub cast_kind : List Known → Context → ExprKind → Span → ProgExpr
  cast_kind hs c (raw.Number n t) s = prog_of (typed.Number n) t s
  cast_kind hs c (raw.Name x) s = name_as (declared_as c x) s
  cast_kind hs c (raw.Element' x n row) s = element_as (declared_as c x) (cast_row hs c row) s
  cast_kind hs c (raw.Call' x n row) s = call_as (helper_of hs x) (cast_row hs c row) s
  cast_kind hs c (raw.Unary' op b (more_of-Expr e at end_of-Expr)) s = unary_as op (cast_kind hs c e at) s
  cast_kind hs c (raw.Cast' t b (more_of-Expr e at end_of-Expr)) s = prog_of (typed.Cast false (cast_kind hs c e at)) t s
  cast_kind hs c (raw.Binary' op b (more_of-Expr e at end_of-Expr) b2 (more_of-Expr e2 at2 end_of-Expr)) s = binary_as op (cast_kind hs c e at) (cast_kind hs c e2 at2) s
  cast_kind hs c (raw.Choose' b (more_of-Expr e at end_of-Expr) b2 (more_of-Expr e2 at2 end_of-Expr) b3 (more_of-Expr e3 at3 end_of-Expr)) s =
      choose_as (cast_kind hs c e at) (cast_kind hs c e2 at2) (cast_kind hs c e3 at3) s

  pub cast_row : List Known → Context → {n : Count} → Row_of-Expr n → List ProgExpr
  cast_row hs c end_of-Expr = []
  cast_row hs c (more_of-Expr e at row) = cast_kind hs c e at ∷ cast_row hs c row

abbrev pub cast_expr : List Known → Context → Expr → ProgExpr
cast_expr hs c e = cast_kind hs c e.kind e.at

abbrev pub cast_exprs : List Known → Context → List Expr → List ProgExpr
cast_exprs hs c [] = []
cast_exprs hs c (e ∷ es) = cast_expr hs c e ∷ cast_exprs hs c es

abbrev pub cast_option : List Known → Context → Option Expr → Option ProgExpr
cast_option hs c None = None
cast_option hs c (Some e) = Some (cast_expr hs c e)

-- a row of expressions is cast as their list is
pub row_casts : (hs : List Known) (c : Context) (es : List Expr) → cast_row hs c (hidden-the_row-Expr-0 es) ≡ cast_exprs hs c es
unfolding expr_rows
row_casts hs c [] = refl
row_casts hs c (e ∷ es) = ap (λ fs. cast_expr hs c e ∷ fs) (row_casts hs c es)

mutual
  unfolding expr_rows

  pub one_expr : (hs : List Known) {c : Context} {e : Expr} {f : ProgExpr} → CastsCallExpr hs c e f → cast_expr hs c e ≡ f
  one_expr hs (casts.number c n t s) = refl
  one_expr hs (casts.name c x v t s h) = ap (λ d. name_as d s) h
  one_expr hs (casts.element c x a t ds es fs s h all) =
      ap (λ d. element_as d (cast_row hs c (hidden-the_row-Expr-0 es)) s) h ∙ ap (λ gs. prog_of (typed.Element a gs) t s) (row_casts hs c es ∙ one_exprs hs all)
  one_expr hs (casts.call c x j g es fs s d there many all) =
      ap (λ o. call_as o (cast_row hs c (hidden-the_row-Expr-0 es)) s) there ∙ ap (λ us. prog_of (typed.Call j (prog_converted_all g.params us)) g.result s) (row_casts hs c es ∙ one_exprs hs all)
  one_expr hs (casts.whole c x v t s h) = ap (λ d. element_as d [] s) h
  one_expr hs (casts.unary c op e f s h) = ap (λ g. unary_as op g s) (one_expr hs h)
  one_expr hs (casts.cast c t e f s h) = ap (λ g. prog_of (typed.Cast false g) t s) (one_expr hs h)
  one_expr hs (casts.binary c op e g f h s p q) = ap (λ u. binary_as op u (cast_expr hs c g) s) (one_expr hs p) ∙ ap (λ u. binary_as op f u s) (one_expr hs q)
  one_expr hs (casts.choose c e g i f h j s p q r) =
      ap (λ u. choose_as u (cast_expr hs c g) (cast_expr hs c i) s) (one_expr hs p) ∙ ap (λ u. choose_as f u (cast_expr hs c i) s) (one_expr hs q) ∙ ap (λ u. choose_as f h u s) (one_expr hs r)

  pub one_exprs : (hs : List Known) {c : Context} {es : List Expr} {fs : List ProgExpr} → CastsCallExprs hs c es fs → cast_exprs hs c es ≡ fs
  one_exprs hs (casts.no_more c) = refl
  one_exprs hs (casts.one_more c e f es fs p q) = ap (λ u. u ∷ cast_exprs hs c es) (one_expr hs p) ∙ ap (λ us. f ∷ us) (one_exprs hs q)

pub one_option : (hs : List Known) {c : Context} {e : Option Expr} {f : Option ProgExpr} → CastsCallOption hs c e f → cast_option hs c e ≡ f
one_option hs (casts.absent c) = refl
one_option hs (casts.present c e f h) = ap (λ g. Some g) (one_expr hs h)

-- ---- targets, with the type of their object

pub record TargetAs : Type 0 where
  pub to : ProgTarget
  pub ty : Ty

abbrev pub target_as : Option Declared → List ProgExpr → Span → TargetAs
target_as None fs s = record { to = record { to = object.Var 0; at = s; indices = [] }; ty = I32 }
target_as (Some (a_var v t)) fs s = record { to = record { to = object.Var v; at = s; indices = [] }; ty = t }
target_as (Some (an_array a t ds)) fs s = record { to = record { to = object.Array a; at = s; indices = fs }; ty = t }

abbrev pub cast_target : List Known → Context → Target → TargetAs
cast_target hs c t = target_as (declared_as c t.name) (cast_exprs hs c t.indices) t.at

pub one_target : (hs : List Known) {c : Context} {x : Target} {to : ProgTarget} {t : Ty} → CastsCallTarget hs c x to t → cast_target hs c x ≡ record { to = to; ty = t }
one_target hs (casts.to_var c x v t s h) = ap (λ d. target_as d [] s) h
one_target hs (casts.to_element c x a t ds e es fs s h all) =
    ap (λ d. target_as d (cast_exprs hs c (e ∷ es)) s) h ∙ ap (λ gs. target_as (Some (an_array a t ds)) gs s) (one_exprs hs all)

-- ---- statements: what they are cast to, and the context after them

pub record Done (A : Type 0) : Type 0 where
  pub value : A
  pub after : Context

abbrev pub value_as : List Known → Ty → Context → Option Expr → Option ProgExpr
value_as hs t c None = None
value_as hs t c (Some e) = Some (prog_converted t (cast_expr hs c e))

abbrev pub return_as : List Known → Option Ty → Context → Option Expr → Option ProgExpr
return_as hs r c None = None
return_as hs None c (Some e) = None
return_as hs (Some t) c (Some e) = Some (prog_converted t (cast_expr hs c e))

abbrev pub block_as : Context → Done (List ProgStmt) → Span → Done ProgStmt
block_as c d s = record { value = prog_at (act.Block d.value) s; after = closed c d.after }

abbrev pub declare_as : Context → List ℕ → Ty → Option ProgExpr → Span → Done ProgStmt
declare_as c x t e s = record { value = prog_at (act.Declare (length c.types) e) s; after = with_var x t c }

abbrev pub assign_as : Context → TargetAs → Option Binary → ProgExpr → Span → Done ProgStmt
assign_as c to op f s = record { value = prog_at (act.Assign to.to op (prog_converted (assigned_type op to.ty f.ty) f)) s; after = c }

abbrev pub step_as : Context → TargetAs → Bool → Span → Done ProgStmt
step_as c to up s = record { value = prog_at (act.Step to.to up) s; after = c }

abbrev pub if_as : ProgExpr → Done ProgStmt → Done (Option ProgStmt) → Span → Done ProgStmt
if_as f d p s = record { value = prog_at (act.If f d.value p.value) s; after = p.after }

abbrev pub while_as : Context → ProgExpr → Done ProgStmt → Span → Done ProgStmt
while_as c f d s = record { value = prog_at (act.While f d.value) s; after = closed c d.after }

abbrev pub do_as : Context → Done ProgStmt → ProgExpr → Span → Done ProgStmt
do_as c d f s = record { value = prog_at (act.DoWhile d.value f) s; after = closed c d.after }

abbrev pub for_as : Context → List ProgStmt → Option ProgExpr → Option ProgStmt → Done ProgStmt → Span → Done ProgStmt
for_as c ts f p d s = record { value = prog_at (act.For ts f p d.value) s; after = closed c d.after }

abbrev pub held_as : Context → Done ProgStmt → Done (Option ProgStmt)
held_as c d = record { value = Some d.value; after = closed c d.after }

abbrev pub more_as : Done ProgStmt → Done (List ProgStmt) → Done (List ProgStmt)
more_as d e = record { value = d.value ∷ e.value; after = e.after }

abbrev mutual
  pub cast_stmt : List Known → Option Ty → StmtKind → Context → Span → Done ProgStmt
  cast_stmt hs r (raw_stmt.Block' n row) c s = block_as c (cast_stmts hs r row (opened c)) s
  cast_stmt hs r (raw_stmt.Declare x t e) c s = declare_as c x t (value_as hs t (with_var x t c) e) s
  cast_stmt hs r (raw_stmt.Assign target op e) c s = assign_as c (cast_target hs c target) op (cast_expr hs c e) s
  cast_stmt hs r (raw_stmt.Step target up) c s = step_as c (cast_target hs c target) up s
  cast_stmt hs r (raw_stmt.If' e b (more_of-Stmt a at end_of-Stmt) o) c s =
      let d = cast_stmt hs r a (opened c) at in if_as (cast_expr hs c e) d (cast_held hs r o (closed c d.after)) s
  cast_stmt hs r (raw_stmt.While' e b (more_of-Stmt a at end_of-Stmt)) c s = while_as c (cast_expr hs c e) (cast_stmt hs r a (opened c) at) s
  cast_stmt hs r (raw_stmt.DoWhile' b (more_of-Stmt a at end_of-Stmt) e) c s = do_as c (cast_stmt hs r a (opened c) at) (cast_expr hs c e) s
  cast_stmt hs r (raw_stmt.For' n row e o b (more_of-Stmt a at end_of-Stmt)) c s =
      let d = cast_stmts hs r row (opened c) in
      let p = cast_held hs r o d.after in
      for_as c d.value (cast_option hs d.after e) p.value (cast_stmt hs r a (opened p.after) at) s
  cast_stmt hs r raw_stmt.Break c s = record { value = prog_at act.Break s; after = c }
  cast_stmt hs r raw_stmt.Continue c s = record { value = prog_at act.Continue s; after = c }
  cast_stmt hs r (raw_stmt.Return e) c s = record { value = prog_at (act.Return (return_as hs r c e)) s; after = c }
  cast_stmt hs r raw_stmt.Empty c s = record { value = prog_at act.Empty s; after = c }

  pub cast_held : List Known → Option Ty → Held-StmtKind-If-2 → Context → Done (Option ProgStmt)
  cast_held hs r raw_stmt.None' c = record { value = None; after = c }
  cast_held hs r (raw_stmt.Some' b (more_of-Stmt a at end_of-Stmt)) c = held_as c (cast_stmt hs r a (opened c) at)

  pub cast_stmts : List Known → Option Ty → {n : Count} → Row_of-Stmt n → Context → Done (List ProgStmt)
  cast_stmts hs r end_of-Stmt c = record { value = []; after = c }
  cast_stmts hs r (more_of-Stmt a at row) c = let d = cast_stmt hs r a c at in more_as d (cast_stmts hs r row d.after)

mutual
  unfolding stmt_rows

  pub one_stmt : (hs : List Known) {r : Option Ty} {c : Context} {a : Stmt} {b : ProgStmt} {d : Context} → CastsCallStmt hs r c a b d → cast_stmt hs r a.kind c a.at ≡ record { value = b; after = d }
  one_stmt hs (casts.block r c d ss ts s h) = ap (λ u. block_as c u s) (one_stmts hs h)
  one_stmt hs (casts.declare r c x t s) = refl
  one_stmt hs (casts.declare_value r c x t e f s h) = ap (λ u. declare_as c x t (Some (prog_converted t u)) s) (one_expr hs h)
  one_stmt hs (casts.assign r c target to t op e f s h k) =
      ap (λ u. assign_as c u op (cast_expr hs c e) s) (one_target hs h) ∙ ap (λ u. assign_as c (record { to = to; ty = t }) op u s) (one_expr hs k)
  one_stmt hs (casts.step r c target to t up s h) = ap (λ u. step_as c u up s) (one_target hs h)
  one_stmt hs (casts.choice r c d d2 e f a b o p s h i j) =
      ap (λ u. if_as u (cast_stmt hs r a.kind (opened c) a.at) (cast_held hs r (back-StmtKind-If-2 o) (closed c (cast_stmt hs r a.kind (opened c) a.at).after)) s) (one_expr hs h)
      ∙ ap (λ u. if_as f u (cast_held hs r (back-StmtKind-If-2 o) (closed c u.after)) s) (one_stmt hs i)
      ∙ ap (λ u. if_as f (record { value = b; after = d }) u s) (one_held hs j)
  one_stmt hs (casts.while_loop r c d e f a b s h i) =
      ap (λ u. while_as c u (cast_stmt hs r a.kind (opened c) a.at) s) (one_expr hs h) ∙ ap (λ u. while_as c f u s) (one_stmt hs i)
  one_stmt hs (casts.do_loop r c d e f a b s h i) =
      ap (λ u. do_as c u (cast_expr hs c e) s) (one_stmt hs h) ∙ ap (λ u. do_as c (record { value = b; after = d }) u s) (one_expr hs i)
  one_stmt hs (casts.for_loop r c d d2 d3 ss ts e f o p a b s h i j k) =
      ap (λ u. for_as c u.value (cast_option hs u.after e) (cast_held hs r (back-StmtKind-If-2 o) u.after).value (cast_stmt hs r a.kind (opened (cast_held hs r (back-StmtKind-If-2 o) u.after).after) a.at) s) (one_stmts hs h)
      ∙ ap (λ u. for_as c ts u (cast_held hs r (back-StmtKind-If-2 o) d).value (cast_stmt hs r a.kind (opened (cast_held hs r (back-StmtKind-If-2 o) d).after) a.at) s) (one_option hs i)
      ∙ ap (λ u. for_as c ts f u.value (cast_stmt hs r a.kind (opened u.after) a.at) s) (one_held hs j)
      ∙ ap (λ u. for_as c ts f p u s) (one_stmt hs k)
  one_stmt hs (casts.leaving r c s) = refl
  one_stmt hs (casts.continuing r c s) = refl
  one_stmt hs (casts.return_nothing r c s) = refl
  one_stmt hs (casts.return_value t c e f s h) = ap (λ u. record { value = prog_at (act.Return (Some (prog_converted t u))) s; after = c }) (one_expr hs h)
  one_stmt hs (casts.empty r c s) = refl

  pub one_held : (hs : List Known) {r : Option Ty} {c : Context} {o : Option Stmt} {p : Option ProgStmt} {d : Context} → CastsCallHeld hs r c o p d → cast_held hs r (back-StmtKind-If-2 o) c ≡ record { value = p; after = d }
  one_held hs (casts.no_statement r c) = refl
  one_held hs (casts.a_statement r c d a b h) = ap (λ u. held_as c u) (one_stmt hs h)

  pub one_stmts : (hs : List Known) {r : Option Ty} {c : Context} {ss : List Stmt} {ts : List ProgStmt} {d : Context} → CastsCallStmts hs r c ss ts d → cast_stmts hs r (hidden-the_row-Stmt-0 ss) c ≡ record { value = ts; after = d }
  one_stmts hs (casts.done r c) = refl
  one_stmts hs (casts.more r c d d2 a b ss ts h i) =
      ap (λ u. more_as u (cast_stmts hs r (hidden-the_row-Stmt-0 ss) u.after)) (one_stmt hs h) ∙ ap (λ u. more_as (record { value = b; after = d }) u) (one_stmts hs i)

-- ---- helpers

abbrev pub cast_body : List Known → Option Ty → List Param → List Stmt → Done (List ProgStmt)
cast_body hs r ps ss = cast_stmts hs r (hidden-the_row-Stmt-0 ss) (first_context ps)

abbrev pub cast_helper : List Known → Helper → TypedHelper
cast_helper hs h =
    let d = cast_body hs (Some h.result) h.params h.body in
    record { name = h.name; at = h.at; result = h.result; params = h.params; vars = d.after.types; body = d.value; value = prog_converted h.result (cast_expr hs d.after h.value) }

-- helpers of equal parts are equal
abbrev helper_by : List ℕ → Span → Ty → List Param → List Ty → List ProgStmt → ProgExpr → TypedHelper
helper_by n a r ps vs b e = record { name = n; at = a; result = r; params = ps; vars = vs; body = b; value = e }

helper_is : (k l : TypedHelper) → k.name ≡ l.name → k.at ≡ l.at → k.result ≡ l.result → k.params ≡ l.params → k.vars ≡ l.vars → k.body ≡ l.body → k.value ≡ l.value → k ≡ l
helper_is k l n a r p v b e =
    ap (λ u. helper_by u k.at k.result k.params k.vars k.body k.value) n
    ∙ ap (λ u. helper_by l.name u k.result k.params k.vars k.body k.value) a
    ∙ ap (λ u. helper_by l.name l.at u k.params k.vars k.body k.value) r
    ∙ ap (λ u. helper_by l.name l.at l.result u k.vars k.body k.value) p
    ∙ ap (λ u. helper_by l.name l.at l.result l.params u k.body k.value) v
    ∙ ap (λ u. helper_by l.name l.at l.result l.params l.vars u k.value) b
    ∙ ap (λ u. helper_by l.name l.at l.result l.params l.vars l.body u) e

one_helper : (hs : List Known) (h : Helper) (k : TypedHelper) → CastsHelper hs h k → k ≡ cast_helper hs h
one_helper hs h k c =
    let d = cast_body hs (Some h.result) h.params h.body in
    let e : d ≡ record { value = k.body; after = c.last } = one_stmts hs c.body_casts in
    let b : k.body ≡ d.value = ap (λ u. u.value) (sym e) in
    let v : k.vars ≡ d.after.types = c.vars_are ∙ ap (λ u. u.after.types) (sym e) in
    let w : k.value ≡ prog_converted h.result (cast_expr hs d.after h.value) = c.value_is ∙ ap (λ u. prog_converted h.result u) (sym (one_expr hs c.value_casts) ∙ ap (λ u. cast_expr hs u.after h.value) (sym e)) in
    helper_is k (cast_helper hs h) c.same_name c.same_place c.same_result c.same_params v b w

abbrev pub cast_helpers : List Known → List Helper → List TypedHelper
cast_helpers hs [] = []
cast_helpers hs (h ∷ rest) = cast_helper hs h ∷ cast_helpers (hs ++ known_of h ∷ []) rest

one_helpers : {hs : List Known} {rest : List Helper} {ks : List TypedHelper} → CastsHelpers hs rest ks → ks ≡ cast_helpers hs rest
one_helpers (casts.no_helpers hs) = refl
one_helpers (casts.a_helper hs h k more ks c rest) = ap (λ u. u ∷ ks) (one_helper hs h k c) ∙ ap (λ us. cast_helper hs h ∷ us) (one_helpers rest)

-- ---- programs

abbrev pub cast_kernel : Program → ProgTree
cast_kernel p =
    let k = p.kernel in
    let d = cast_body (map known_of p.helpers) k.result k.params k.body in
    record { name = k.name; at = k.at; result = k.result; params = k.params; vars = d.after.types; arrays = (parameters k.params).arrays; body = d.value }

abbrev pub cast_program : Program → TypedProgram
cast_program p = record { helpers = cast_helpers [] p.helpers; kernel = cast_kernel p }

abbrev program_by : List TypedHelper → List ℕ → Span → Option Ty → List Param → List Ty → List ArrayOf → List ProgStmt → TypedProgram
program_by hs n a r ps vs xs b = record { helpers = hs; kernel = record { name = n; at = a; result = r; params = ps; vars = vs; arrays = xs; body = b } }

one_program : (p : Program) (P : TypedProgram) → CastsProgram p P → P ≡ cast_program p
one_program p P c =
    let k = P.kernel in
    let l = cast_kernel p in
    let d = cast_body (map known_of p.helpers) p.kernel.result p.kernel.params p.kernel.body in
    let e : d ≡ record { value = k.body; after = c.last } = one_stmts (map known_of p.helpers) c.body_casts in
    let b : k.body ≡ d.value = ap (λ u. u.value) (sym e) in
    let v : k.vars ≡ d.after.types = c.vars_are ∙ ap (λ u. u.after.types) (sym e) in
    let gs = cast_helpers [] p.helpers in
    ap (λ u. program_by u k.name k.at k.result k.params k.vars k.arrays k.body) (one_helpers c.helpers_cast)
    ∙ ap (λ u. program_by gs u k.at k.result k.params k.vars k.arrays k.body) c.same_name
    ∙ ap (λ u. program_by gs l.name u k.result k.params k.vars k.arrays k.body) c.same_place
    ∙ ap (λ u. program_by gs l.name l.at u k.params k.vars k.arrays k.body) c.same_result
    ∙ ap (λ u. program_by gs l.name l.at l.result u k.vars k.arrays k.body) c.same_params
    ∙ ap (λ u. program_by gs l.name l.at l.result l.params u k.arrays k.body) v
    ∙ ap (λ u. program_by gs l.name l.at l.result l.params l.vars u k.body) c.arrays_are
    ∙ ap (λ u. program_by gs l.name l.at l.result l.params l.vars l.arrays u) b

pub typed_is_one : TypedIsOne
typed_is_one p P Q c d = one_program p P c ∙ sym (one_program p Q d)
