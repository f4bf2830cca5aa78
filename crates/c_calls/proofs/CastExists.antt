-- A program that keeps the rules on names has a typed program: that of the function is one by the relation of casts.
use Rattle.std.proofs.Common.{◌≡◌, ℕ, suc, ◌<◌, List, [], ◌∷◌, ◌++◌, length, map, Option, Some, None, refl, sym, ◌∙◌, ap, subst, cond, append-nil, append_assoc}
use Rattle.std.proofs.lemmas.Bool.{false≢true}
use Rattle.std.proofs.lemmas.List.{length-map}
use Rattle.std.proofs.lemmas.List.Elements.{All-head, All-tail}
use Rattle.std.specs.Prelude.{Bool, true, false, ◌==◌, All, IsSome, if◌then◌else◌}
use Rattle.std.specs.Cmp.Lexicographic.{pointwise, bytes_decides}
use Rattle.std.specs.Map.{lookup}
use mathlib.Core.Former.{Count, list_count, this}
use denote.Hole.Carrier.{roll, out}
use Rattle.el_base.specs.declared.span.Span.{Span}
use Rattle.el_base.specs.declared.ty.Ty.{Ty}
use Rattle.c_ast.specs.declared.tree.Param.{Param}
use Rattle.c_ast.specs.declared.tree.Target.{Target}
use Rattle.c_ast.specs.declared.tree.Expr.{Expr}
use Rattle.c_ast.specs.declared.tree.ExprKind.{ExprKind, Row_of-Expr, end_of-Expr, more_of-Expr, roll-out-ExprKind, items_shown-the_row-Expr-0}
use Rattle.c_ast.specs.declared.tree.ExprKind as raw
use Rattle.c_ast.specs.declared.tree.ExprKind.TheVariants as expr
use Rattle.c_ast.specs.declared.tree.ExprKind.TheBlock.{shown-the_row-Expr-0}
use Rattle.c_ast.specs.declared.tree.Stmt.{Stmt}
use Rattle.c_ast.specs.declared.tree.StmtKind.{StmtKind, Row_of-Stmt, end_of-Stmt, more_of-Stmt, Held-StmtKind-If-2}
use Rattle.c_ast.specs.declared.tree.StmtKind as raw_stmt
use Rattle.c_ast.specs.declared.tree.StmtKind.TheVariants as stmt
use Rattle.c_ast.specs.declared.tree.StmtKind.TheBlock.{hidden-the_row-Stmt-0}
use Rattle.c_ast.specs.declared.tree.Helper.{Helper}
use Rattle.c_ast.specs.declared.tree.Program.{Program}
use Rattle.c_ast.specs.declared.program.ProgExpr.{ProgExpr}
use Rattle.c_ast.specs.declared.program.ProgStmtKind.TheVariants as act
use Rattle.c_ast.specs.Typing.{Sort, Names, a_scalar, a_helper, sort_in, sort_of, with_name, IsUsable, IsCallable, IsReturnable, TypingKind, TypingRow, TypingExpr, TypingOption, TypingTarget, names_after, names_after_row, TypingStmt, TypingHeld, TypingStmts, TypingList, row_length, sort_of_dims, scope_of}
use Rattle.c_ast.specs.Typing as typing
use Rattle.c_ast.specs.Casts.{Declared, a_var, an_array, Scope, Context, declared_as, into_innermost, with_var, opened, closed, expr_at, stmt_at, Parameters, with_param, with_params, first_context}
use Rattle.c_ast.specs.Programs.{TypingHelper, with_helper, TypingHelpers, TypingProgram, known_after, names_after_list}
use Rattle.c_ast.specs.ProgramCasts.{Known, helper_from, helper_of, known_of, CastsCallExpr, CastsCallExprs, CastsCallTarget, CastsCallOption, prog_at, CastsCallStmt, CastsCallHeld, CastsCallStmts, CastsHelper, CastsHelpers, CastsProgram}
use Rattle.c_ast.specs.ProgramCasts as casts
use Rattle.c_meaning.proofs.Contexts.{sort_as, UsedAs}
use Rattle.c_meaning.proofs.Existence.{not_empty, not_below_zero, row_length_is, list_typing}
use Rattle.c_meaning.proofs.LawfulExpressions.{found_in}
use Rattle.c_meaning.proofs.TreeShapes.{exprs_of, stmts_of, element_is, block_is, held_of, if_is, for_is, items_are}
use Rattle.c_meaning.proofs.LawfulKernels.{same_text}
use Rattle.c_calls.specs.Texts.{TypedExists}
use Rattle.c_calls.proofs.CastOnce.{name_as, element_as, call_as, target_as, cast_kind, cast_row, cast_expr, cast_exprs, cast_option, cast_target, value_as, return_as, cast_stmt, cast_held, cast_stmts, cast_body, cast_helper, cast_helpers, cast_program}
use Rattle.c_calls.proofs.CastExprs.{there_is}
use Rattle.c_calls.proofs.CastPrograms.{names_after_same}
use Rattle.c_meaning.proofs.TreeRows.{expr_rows, stmt_rows}

-- ---- what a name stands for

-- a helper by its place
abbrev Found : Type 0
Found = Option (ℕ × Known)

abbrev sort_of_helper : Found → Option Sort
sort_of_helper None = None
sort_of_helper (Some (j, g)) = Some (a_helper (length g.params))

-- a variable or an array, and else a helper
abbrev sort_there : Option Declared → Found → Option Sort
sort_there None o = sort_of_helper o
sort_there (Some d) o = Some (sort_as d)

-- the rules have the names that the casts have
abbrev Tells : List Known → Names → List Scope → Type 0
Tells hs names ss = (x : List ℕ) → sort_of names x ≡ sort_there (found_in ss x) (helper_of hs x)

used : (o : Option Declared) (f : Found) (p : Option Sort) (n : ℕ) → p ≡ sort_there o f → IsSome p → (p ≡ Some a_scalar → n ≡ 0) → ((m : ℕ) → p ≡ Some (typing.an_array m) → 0 < n) → ((m : ℕ) → p ≡ Some (typing.an_array m) → 0 < n → n ≡ m)
    → ((m : ℕ) → p ≡ Some (a_helper m) → ⊥) → UsedAs n o
used None None p n e some s a d h = false≢true (subst IsSome e some)
used None (Some (j, g)) p n e some s a d h = absurd (h (length g.params) e)
used (Some (a_var v t)) f p n e some s a d h = s e
used (Some (an_array k t ds)) f p n e some s a d h = (a (length ds) e, d (length ds) e (a (length ds) e))

usable : (hs : List Known) (names : Names) (ss : List Scope) → Tells hs names ss → (x : List ℕ) (n : ℕ) → IsUsable names x n → UsedAs n (found_in ss x)
usable hs names ss w x n h = used (found_in ss x) (helper_of hs x) (sort_of names x) n (w x) h.rule_20_declared h.rule_22_scalar_has_none h.rule_23_array_has_some h.rule_24_one_for_each h.rule_23_no_helper

-- what a name that is called with so many arguments stands for
abbrev CalledAs : ℕ → Option Declared → Found → Type 0
CalledAs n (Some d) f = ⊥
CalledAs n None None = ⊥
CalledAs n None (Some (j, g)) = n ≡ length g.params

called : (o : Option Declared) (f : Found) (p : Option Sort) (n : ℕ) → p ≡ sort_there o f → IsSome p → (p ≡ Some a_scalar → ⊥) → ((m : ℕ) → p ≡ Some (typing.an_array m) → ⊥) → ((m : ℕ) → p ≡ Some (a_helper m) → n ≡ m) → CalledAs n o f
called None None p n e some s a h = false≢true (subst IsSome e some)
called None (Some (j, g)) p n e some s a h = h (length g.params) e
called (Some (a_var v t)) f p n e some s a h = s e
called (Some (an_array k t ds)) f p n e some s a h = a (length ds) e

callable : (hs : List Known) (names : Names) (ss : List Scope) → Tells hs names ss → (x : List ℕ) (n : ℕ) → IsCallable names x n → CalledAs n (found_in ss x) (helper_of hs x)
callable hs names ss w x n h = called (found_in ss x) (helper_of hs x) (sort_of names x) n (w x) h.rule_20_declared h.rule_17_no_scalar h.rule_17_no_array h.rule_29_one_for_each

-- ---- after a declarator

tells_if : (b : Bool) (d : Declared) (o : Option Declared) (s : Option Sort) (f : Found) → s ≡ sort_there o f → cond b (Some (sort_as d)) s ≡ sort_there (cond b (Some d) o) f
tells_if true d o s f e = refl
tells_if false d o s f e = e

tells_with : (hs : List Known) (names : Names) (ss : List Scope) (x : List ℕ) (v : ℕ) (t : Ty) → Tells hs names ss → Tells hs (with_name x names) (into_innermost (x, a_var v t) ss)
tells_with hs [] [] x v t w y = tells_if (pointwise ◌==◌ y x) (a_var v t) (found_in [] y) (sort_of [] y) (helper_of hs y) (w y)
tells_with hs [] (s ∷ ss) x v t w y = tells_if (pointwise ◌==◌ y x) (a_var v t) (found_in (s ∷ ss) y) (sort_of [] y) (helper_of hs y) (w y)
tells_with hs (n ∷ ns) [] x v t w y = tells_if (pointwise ◌==◌ y x) (a_var v t) (found_in [] y) (sort_of (n ∷ ns) y) (helper_of hs y) (w y)
tells_with hs (n ∷ ns) (s ∷ ss) x v t w y = tells_if (pointwise ◌==◌ y x) (a_var v t) (found_in (s ∷ ss) y) (sort_of (n ∷ ns) y) (helper_of hs y) (w y)

-- ---- expressions

call_is : (x : List ℕ) (n : List (Unit {0})) (row : Row_of-Expr (list_count (this {0}) n 0)) → expr.Call x (exprs_of row) ≡ raw.Call' x n row
unfolding expr_rows shown-the_row-Expr-0 raw.out-ExprKind raw.roll-ExprKind roll out
call_is x n row = ap (λ (es : List Expr). expr.Call x es) (sym (items_shown-the_row-Expr-0 n row)) ∙ roll-out-ExprKind (raw.Call' x n row)

module _ (hs : List Known) where
  name_casts : (c : Context) (x : List ℕ) (s : Span) (o : Option Declared) → declared_as c x ≡ o → UsedAs 0 o → CastsCallExpr hs c (expr_at (expr.Name x) s) (name_as o s)
  name_casts c x s None e u = absurd u
  name_casts c x s (Some (a_var v t)) e u = casts.name c x v t s e
  name_casts c x s (Some (an_array a t ds)) e u = absurd (not_below_zero u.0)

  element_casts : (c : Context) (x : List ℕ) (s : Span) (es : List Expr) (fs : List ProgExpr) (o : Option Declared) → declared_as c x ≡ o → UsedAs (length es) o → CastsCallExprs hs c es fs
      → CastsCallExpr hs c (expr_at (expr.Element x es) s) (element_as o fs s)
  element_casts c x s es fs None e u h = absurd u
  element_casts c x s [] fs (Some (a_var v t)) e u h = casts.whole c x v t s e
  element_casts c x s (f ∷ es) fs (Some (a_var v t)) e u h = absurd (not_empty f es u)
  element_casts c x s es fs (Some (an_array a t ds)) e u h = casts.element c x a t ds es fs s e h

  call_casts : (c : Context) (x : List ℕ) (s : Span) (es : List Expr) (fs : List ProgExpr) (o : Option Declared) (f : Found) → declared_as c x ≡ o → helper_of hs x ≡ f → CalledAs (length es) o f → CastsCallExprs hs c es fs
      → CastsCallExpr hs c (expr_at (expr.Call x es) s) (call_as f fs s)
  call_casts c x s es fs (Some d) f e e2 u h = absurd u
  call_casts c x s es fs None None e e2 u h = absurd u
  call_casts c x s es fs None (Some (j, g)) e e2 u h = casts.call c x j g es fs s e e2 u h

  mutual
    unfolding expr_rows

    kind_casts : (names : Names) (c : Context) (k : ExprKind) (s : Span) → Tells hs names c.scopes → TypingKind names k → CastsCallExpr hs c (record { kind = k; at = s }) (cast_kind hs c k s)
    kind_casts names c (raw.Number n t) s w h = casts.number c n t s
    kind_casts names c (raw.Name x) s w h = name_casts c x s (declared_as c x) refl (usable hs names c.scopes w x 0 h)
    kind_casts names c (raw.Element' x n row) s w h =
        subst (λ k. CastsCallExpr hs c (record { kind = k; at = s }) (element_as (declared_as c x) (cast_row hs c row) s)) (element_is x n row)
        (element_casts c x s (exprs_of row) (cast_row hs c row) (declared_as c x) refl
        (subst (λ m. UsedAs m (declared_as c x)) (row_length_is row) (usable hs names c.scopes w x (row_length row) h.0)) (row_casts names c row w h.1))
    kind_casts names c (raw.Call' x n row) s w h =
        subst (λ k. CastsCallExpr hs c (record { kind = k; at = s }) (call_as (helper_of hs x) (cast_row hs c row) s)) (call_is x n row)
        (call_casts c x s (exprs_of row) (cast_row hs c row) (declared_as c x) (helper_of hs x) refl refl
        (subst (λ m. CalledAs m (declared_as c x) (helper_of hs x)) (row_length_is row) (callable hs names c.scopes w x (row_length row) h.0)) (row_casts names c row w h.1))
    kind_casts names c (raw.Unary' op b (more_of-Expr e at end_of-Expr)) s w h = casts.unary c op (record { kind = e; at = at }) (cast_kind hs c e at) s (kind_casts names c e at w h)
    kind_casts names c (raw.Cast' t b (more_of-Expr e at end_of-Expr)) s w h = casts.cast c t (record { kind = e; at = at }) (cast_kind hs c e at) s (kind_casts names c e at w h)
    kind_casts names c (raw.Binary' op b (more_of-Expr e at end_of-Expr) b2 (more_of-Expr e2 at2 end_of-Expr)) s w h =
        casts.binary c op (record { kind = e; at = at }) (record { kind = e2; at = at2 }) (cast_kind hs c e at) (cast_kind hs c e2 at2) s (kind_casts names c e at w h.0) (kind_casts names c e2 at2 w h.1)
    kind_casts names c (raw.Choose' b (more_of-Expr e at end_of-Expr) b2 (more_of-Expr e2 at2 end_of-Expr) b3 (more_of-Expr e3 at3 end_of-Expr)) s w h =
        casts.choose c (record { kind = e; at = at }) (record { kind = e2; at = at2 }) (record { kind = e3; at = at3 }) (cast_kind hs c e at) (cast_kind hs c e2 at2) (cast_kind hs c e3 at3) s
        (kind_casts names c e at w h.0) (kind_casts names c e2 at2 w h.1) (kind_casts names c e3 at3 w h.2)

    row_casts : (names : Names) (c : Context) {n : Count} (row : Row_of-Expr n) → Tells hs names c.scopes → TypingRow names row → CastsCallExprs hs c (exprs_of row) (cast_row hs c row)
    row_casts names c end_of-Expr w h = casts.no_more c
    row_casts names c (more_of-Expr e at row) w h = casts.one_more c (record { kind = e; at = at }) (cast_kind hs c e at) (exprs_of row) (cast_row hs c row) (kind_casts names c e at w h.0) (row_casts names c row w h.1)

  expr_casts : (names : Names) (c : Context) (e : Expr) → Tells hs names c.scopes → TypingExpr names e → CastsCallExpr hs c e (cast_expr hs c e)
  expr_casts names c e w h = kind_casts names c e.kind e.at w h

  exprs_cast : (names : Names) (c : Context) (es : List Expr) → Tells hs names c.scopes → All (TypingExpr names) es → CastsCallExprs hs c es (cast_exprs hs c es)
  exprs_cast names c [] w h = casts.no_more c
  exprs_cast names c (e ∷ es) w h = casts.one_more c e (cast_expr hs c e) es (cast_exprs hs c es)
      (expr_casts names c e w (All-head (TypingExpr names) e es h)) (exprs_cast names c es w (All-tail (TypingExpr names) e es h))

  option_casts : (names : Names) (c : Context) (e : Option Expr) → Tells hs names c.scopes → TypingOption names e → CastsCallOption hs c e (cast_option hs c e)
  option_casts names c None w h = casts.absent c
  option_casts names c (Some e) w h = casts.present c e (cast_expr hs c e) (expr_casts names c e w h)

  -- ---- targets

  target_casts : (c : Context) (x : List ℕ) (s : Span) (es : List Expr) (fs : List ProgExpr) (o : Option Declared) → declared_as c x ≡ o → UsedAs (length es) o → CastsCallExprs hs c es fs
      → CastsCallTarget hs c (record { name = x; at = s; indices = es }) (target_as o fs s).to (target_as o fs s).ty
  target_casts c x s es fs None e u h = absurd u
  target_casts c x s [] fs (Some (a_var v t)) e u h = casts.to_var c x v t s e
  target_casts c x s (f ∷ es) fs (Some (a_var v t)) e u h = absurd (not_empty f es u)
  target_casts c x s [] fs (Some (an_array a t ds)) e u h = absurd (not_below_zero u.0)
  target_casts c x s (f ∷ es) fs (Some (an_array a t ds)) e u h = casts.to_element c x a t ds f es fs s e h

  whole_target_casts : (names : Names) (c : Context) (t : Target) → Tells hs names c.scopes → TypingTarget names t → CastsCallTarget hs c t (cast_target hs c t).to (cast_target hs c t).ty
  whole_target_casts names c t w h =
      target_casts c t.name t.at t.indices (cast_exprs hs c t.indices) (declared_as c t.name) refl (usable hs names c.scopes w t.name (length t.indices) h.0) (exprs_cast names c t.indices w h.1)

  -- ---- statements

  declare_casts : (names : Names) (r : Option Ty) (c : Context) (x : List ℕ) (t : Ty) (e : Option Expr) (s : Span) → Tells hs names (with_var x t c).scopes → TypingOption names e
      → CastsCallStmt hs r c (stmt_at (stmt.Declare x t e) s) (prog_at (act.Declare (length c.types) (value_as hs t (with_var x t c) e)) s) (with_var x t c)
  declare_casts names r c x t None s w h = casts.declare r c x t s
  declare_casts names r c x t (Some e) s w h = casts.declare_value r c x t e (cast_expr hs (with_var x t c) e) s (expr_casts names (with_var x t c) e w h)

  return_casts : (names : Names) (r : Option Ty) (c : Context) (e : Option Expr) (s : Span) → Tells hs names c.scopes → IsReturnable r e → TypingOption names e
      → CastsCallStmt hs r c (stmt_at (stmt.Return e) s) (prog_at (act.Return (return_as hs r c e)) s) c
  return_casts names r c None s w i h = casts.return_nothing r c s
  return_casts names None c (Some e) s w i h = absurd i
  return_casts names (Some t) c (Some e) s w i h = casts.return_value t c e (cast_expr hs c e) s (expr_casts names c e w h)

  -- a part that is held changes no scope
  held_scopes : (r : Option Ty) (o : Held-StmtKind-If-2) (c : Context) → (cast_held hs r o c).after.scopes ≡ c.scopes
  held_scopes r raw_stmt.None' c = refl
  held_scopes r (raw_stmt.Some' b (more_of-Stmt a at end_of-Stmt)) c = refl

  held_tells : (names : Names) (r : Option Ty) (o : Held-StmtKind-If-2) (c : Context) → Tells hs names c.scopes → Tells hs names (cast_held hs r o c).after.scopes
  held_tells names r o c w = subst (Tells hs names) (sym (held_scopes r o c)) w

  after_tells : (names : Names) (r : Option Ty) (k : StmtKind) (c : Context) (s : Span) → Tells hs names c.scopes → Tells hs (names_after names k) (cast_stmt hs r k c s).after.scopes
  after_tells names r (raw_stmt.Declare x t e) c s w = tells_with hs names c.scopes x (length c.types) t w
  after_tells names r (raw_stmt.If' e b (more_of-Stmt a at end_of-Stmt) o) c s w = held_tells names r o (closed c (cast_stmt hs r a (opened c) at).after) w
  after_tells names r (raw_stmt.While' e b (more_of-Stmt a at end_of-Stmt)) c s w = w
  after_tells names r (raw_stmt.DoWhile' b (more_of-Stmt a at end_of-Stmt) e) c s w = w
  after_tells names r (raw_stmt.For' n row e o b (more_of-Stmt a at end_of-Stmt)) c s w = w
  after_tells names r k c s w = w

  row_tells : (names : Names) (r : Option Ty) {n : Count} (row : Row_of-Stmt n) (c : Context) → Tells hs names c.scopes → Tells hs (names_after_row names row) (cast_stmts hs r row c).after.scopes
  row_tells names r end_of-Stmt c w = w
  row_tells names r (more_of-Stmt a at row) c w = row_tells (names_after names a) r row (cast_stmt hs r a c at).after (after_tells names r a c at w)

  mutual
    unfolding stmt_rows

    stmt_casts : (names : Names) (r : Option Ty) (loop : Bool) (k : StmtKind) (c : Context) (s : Span) → Tells hs names c.scopes → TypingStmt k r loop names
        → CastsCallStmt hs r c (record { kind = k; at = s }) (cast_stmt hs r k c s).value (cast_stmt hs r k c s).after
    stmt_casts names r loop (raw_stmt.Block' n row) c s w h =
        let d = cast_stmts hs r row (opened c) in
        subst (λ k. CastsCallStmt hs r c (record { kind = k; at = s }) (prog_at (act.Block d.value) s) (closed c d.after)) (block_is n row)
        (casts.block r c d.after (stmts_of row) d.value s (stmts_cast ([] ∷ names) r loop row (opened c) (λ x. w x) h))
    stmt_casts names r loop (raw_stmt.Declare x t e) c s w h = declare_casts (with_name x names) r c x t e s (tells_with hs names c.scopes x (length c.types) t w) h.1
    stmt_casts names r loop (raw_stmt.Assign target op e) c s w h =
        casts.assign r c target (cast_target hs c target).to (cast_target hs c target).ty op e (cast_expr hs c e) s (whole_target_casts names c target w h.0) (expr_casts names c e w h.1)
    stmt_casts names r loop (raw_stmt.Step target up) c s w h = casts.step r c target (cast_target hs c target).to (cast_target hs c target).ty up s (whole_target_casts names c target w h)
    stmt_casts names r loop (raw_stmt.If' e b (more_of-Stmt a at end_of-Stmt) o) c s w h =
        let d = cast_stmt hs r a (opened c) at in
        let p = cast_held hs r o (closed c d.after) in
        subst (λ k. CastsCallStmt hs r c (record { kind = k; at = s }) (prog_at (act.If (cast_expr hs c e) d.value p.value) s) p.after) (if_is e b a at o)
        (casts.choice r c d.after p.after e (cast_expr hs c e) (record { kind = a; at = at }) d.value (held_of o) p.value s
        (expr_casts names c e w h.0) (stmt_casts ([] ∷ names) r loop a (opened c) at (λ x. w x) h.1) (held_casts names r loop o (closed c d.after) w h.2))
    stmt_casts names r loop (raw_stmt.While' e b (more_of-Stmt a at end_of-Stmt)) c s w h =
        let d = cast_stmt hs r a (opened c) at in
        casts.while_loop r c d.after e (cast_expr hs c e) (record { kind = a; at = at }) d.value s (expr_casts names c e w h.0) (stmt_casts ([] ∷ names) r true a (opened c) at (λ x. w x) h.1)
    stmt_casts names r loop (raw_stmt.DoWhile' b (more_of-Stmt a at end_of-Stmt) e) c s w h =
        let d = cast_stmt hs r a (opened c) at in
        casts.do_loop r c d.after e (cast_expr hs c e) (record { kind = a; at = at }) d.value s (stmt_casts ([] ∷ names) r true a (opened c) at (λ x. w x) h.0) (expr_casts names c e w h.1)
    stmt_casts names r loop (raw_stmt.For' n row e o b (more_of-Stmt a at end_of-Stmt)) c s w h =
        let d = cast_stmts hs r row (opened c) in
        let p = cast_held hs r o d.after in
        let q = cast_stmt hs r a (opened p.after) at in
        let names1 = names_after_row ([] ∷ names) row in
        let w1 = row_tells ([] ∷ names) r row (opened c) (λ x. w x) in
        let w2 = held_tells names1 r o d.after w1 in
        subst (λ k. CastsCallStmt hs r c (record { kind = k; at = s }) (prog_at (act.For d.value (cast_option hs d.after e) p.value q.value) s) (closed c q.after)) (for_is n row e o b a at)
        (casts.for_loop r c d.after p.after q.after (stmts_of row) d.value e (cast_option hs d.after e) (held_of o) p.value (record { kind = a; at = at }) q.value s
        (stmts_cast ([] ∷ names) r false row (opened c) (λ x. w x) h.0)
        (option_casts names1 d.after e w1 h.1)
        (held_casts names1 r false o d.after w1 h.2)
        (stmt_casts ([] ∷ names1) r true a (opened p.after) at (λ x. w2 x) h.3))
    stmt_casts names r loop raw_stmt.Break c s w h = casts.leaving r c s
    stmt_casts names r loop raw_stmt.Continue c s w h = casts.continuing r c s
    stmt_casts names r loop (raw_stmt.Return e) c s w h = return_casts names r c e s w h.0 h.1
    stmt_casts names r loop raw_stmt.Empty c s w h = casts.empty r c s

    held_casts : (names : Names) (r : Option Ty) (loop : Bool) (o : Held-StmtKind-If-2) (c : Context) → Tells hs names c.scopes → TypingHeld o r loop names → CastsCallHeld hs r c (held_of o) (cast_held hs r o c).value (cast_held hs r o c).after
    held_casts names r loop raw_stmt.None' c w h = casts.no_statement r c
    held_casts names r loop (raw_stmt.Some' b (more_of-Stmt a at end_of-Stmt)) c w h =
        let d = cast_stmt hs r a (opened c) at in casts.a_statement r c d.after (record { kind = a; at = at }) d.value (stmt_casts ([] ∷ names) r loop a (opened c) at (λ x. w x) h)

    stmts_cast : (names : Names) (r : Option Ty) (loop : Bool) {n : Count} (row : Row_of-Stmt n) (c : Context) → Tells hs names c.scopes → TypingStmts row r loop names → CastsCallStmts hs r c (stmts_of row) (cast_stmts hs r row c).value (cast_stmts hs r row c).after
    stmts_cast names r loop end_of-Stmt c w h = casts.done r c
    stmts_cast names r loop (more_of-Stmt a at row) c w h =
        let d = cast_stmt hs r a c at in
        let e = cast_stmts hs r row d.after in
        casts.more r c d.after e.after (record { kind = a; at = at }) d.value (stmts_of row) e.value
        (stmt_casts names r loop a c at w h.0) (stmts_cast (names_after names a) r loop row d.after (after_tells names r a c at w) h.1)

  -- the statements of a block
  body_casts : (names : Names) (r : Option Ty) (ps : List Param) (ss : List Stmt) → Tells hs names (first_context ps).scopes → TypingList ss r false names → CastsCallStmts hs r (first_context ps) ss (cast_body hs r ps ss).value (cast_body hs r ps ss).after
  body_casts names r ps ss w h =
      subst (λ us. CastsCallStmts hs r (first_context ps) us (cast_body hs r ps ss).value (cast_body hs r ps ss).after) (items_are ss)
      (stmts_cast names r false (hidden-the_row-Stmt-0 ss) (first_context ps) w (list_typing ss r false names h))

  body_tells : (names : Names) (r : Option Ty) (ps : List Param) (ss : List Stmt) → Tells hs names (first_context ps).scopes → Tells hs (names_after_list names ss) (cast_body hs r ps ss).after.scopes
  body_tells names r ps ss w = subst (λ ns. Tells hs ns (cast_body hs r ps ss).after.scopes) (names_after_same names ss) (row_tells names r (hidden-the_row-Stmt-0 ss) (first_context ps) w)

-- ---- parameters

param_tells : (hs : List Known) (p : Param) (ds : List ℕ) (q : Parameters) (sorts : List (List ℕ × Sort)) (more : Names) → p.dims ≡ ds → Tells hs (sorts ∷ more) (q.scope ∷ []) → Tells hs (((p.name, sort_of_dims ds) ∷ sorts) ∷ more) ((with_param p ds q).scope ∷ [])
param_tells hs p [] q sorts more e w x = tells_if (pointwise ◌==◌ x p.name) (a_var (length q.types) p.ty) (found_in (q.scope ∷ []) x) (sort_of (sorts ∷ more) x) (helper_of hs x) (w x)
param_tells hs p (d ∷ ds) q sorts more e w x =
    ap (λ u. cond (pointwise ◌==◌ x p.name) (Some (typing.an_array (length u))) (sort_of (sorts ∷ more) x)) (sym e)
    ∙ tells_if (pointwise ◌==◌ x p.name) (an_array (length q.arrays) p.ty p.dims) (found_in (q.scope ∷ []) x) (sort_of (sorts ∷ more) x) (helper_of hs x) (w x)

params_tell : (hs : List Known) (ps : List Param) (q : Parameters) (sorts : List (List ℕ × Sort)) (more : Names) → Tells hs (sorts ∷ more) (q.scope ∷ []) → Tells hs (scope_of ps sorts ∷ more) ((with_params ps q).scope ∷ [])
params_tell hs [] q sorts more w = w
params_tell hs (p ∷ ps) q sorts more w = params_tell hs ps (with_param p p.dims q) ((p.name, sort_of_dims p.dims) ∷ sorts) more (param_tells hs p p.dims q sorts more refl w)

-- the helpers so far, as the rules know them
abbrev Knows : List Known → List (List ℕ × Sort) → Type 0
Knows hs known = (x : List ℕ) → sort_in known x ≡ sort_of_helper (helper_of hs x)

first_tells : (hs : List Known) (known : List (List ℕ × Sort)) (ps : List Param) → Knows hs known → Tells hs (scope_of ps [] ∷ known ∷ []) (first_context ps).scopes
first_tells hs known ps w = params_tell hs ps (record { scope = []; types = []; arrays = [] }) [] (known ∷ []) (λ x. ap (λ es. lookup (pointwise ◌==◌ x) es) (append-nil known) ∙ w x)

-- one name is the other, or not, from either side
turned : (x y : List ℕ) (b : Bool) → pointwise ◌==◌ x y ≡ b → pointwise ◌==◌ y x ≡ b
turned x y true e = ap (λ z. pointwise ◌==◌ y z) ((bytes_decides x y).0 e) ∙ same_text y
turned x y false e = other (pointwise ◌==◌ y x) refl
  where
    other : (b : Bool) → pointwise ◌==◌ y x ≡ b → pointwise ◌==◌ y x ≡ false
    other true f = absurd (false≢true (sym e ∙ (bytes_decides x y).1 (sym ((bytes_decides y x).0 f))))
    other false f = f

-- ---- one helper more

abbrev no_one : Found
no_one = None

found_one : (b : Bool) (n : ℕ) (g : Known) → sort_of_helper (if b then there_is n g else no_one) ≡ cond b (Some (a_helper (length g.params))) None
found_one true n g = refl
found_one false n g = refl

more_at : (b : Bool) (n : ℕ) (h : Known) (o p : Found) (s : Option Sort) → (if b then there_is n h else o) ≡ no_one → (o ≡ no_one → sort_of_helper p ≡ s) → sort_of_helper (if b then there_is n h else p) ≡ s
more_at true n h o p s e f = absurd (cc)
more_at false n h o p s e f = f e

-- behind those of which none has the name
found_more : (n : ℕ) (hs : List Known) (g : Known) (x : List ℕ) → helper_from n hs x ≡ no_one → sort_of_helper (helper_from n (hs ++ g ∷ []) x) ≡ cond (pointwise ◌==◌ g.name x) (Some (a_helper (length g.params))) None
found_more n [] g x e = found_one (pointwise ◌==◌ g.name x) n g
found_more n (h ∷ hs) g x e =
    more_at (pointwise ◌==◌ h.name x) n h (helper_from (suc n) hs x) (helper_from (suc n) (hs ++ g ∷ []) x) (cond (pointwise ◌==◌ g.name x) (Some (a_helper (length g.params))) None) e (found_more (suc n) hs g x)

kept_at : (b : Bool) (n : ℕ) (h : Known) (o p : Found) (j : ℕ) (g : Known) → (if b then there_is n h else o) ≡ there_is j g → (o ≡ there_is j g → p ≡ there_is j g) → (if b then there_is n h else p) ≡ there_is j g
kept_at true n h o p j g e f = e
kept_at false n h o p j g e f = f e

-- one that has the name stays the first
found_kept : (n : ℕ) (hs : List Known) (more : List Known) (x : List ℕ) (j : ℕ) (g : Known) → helper_from n hs x ≡ there_is j g → helper_from n (hs ++ more) x ≡ there_is j g
found_kept n [] more x j g e = absurd (cc)
found_kept n (h ∷ hs) more x j g e = kept_at (pointwise ◌==◌ h.name x) n h (helper_from (suc n) hs x) (helper_from (suc n) (hs ++ more) x) j g e (found_kept (suc n) hs more x j g)

-- the name of a helper is new, so it is not that of an earlier one
not_taken : (known : List (List ℕ × Sort)) (x y : List ℕ) (s : Sort) (b : Bool) → pointwise ◌==◌ x y ≡ b → sort_in known y ≡ None → sort_in known x ≡ Some s → b ≡ false
not_taken known x y s false e none some = refl
not_taken known x y s true e none some = absurd (differ (sym some ∙ ap (sort_in known) ((bytes_decides x y).0 e) ∙ none))
  where
    differ : Some s ≡ None → ⊥
    differ f = absurd (cc)

knows_at : (hs : List Known) (known : List (List ℕ × Sort)) (h : Helper) (x : List ℕ) (o : Found) → helper_of hs x ≡ o → sort_in known x ≡ sort_of_helper o → sort_in known h.name ≡ None → sort_in (with_helper h known) x ≡ sort_of_helper (helper_of (hs ++ known_of h ∷ []) x)
knows_at hs known h x None e w new =
    let b = pointwise ◌==◌ x h.name in
    let many = length-map h.params (λ (q : Param). q.ty) in
    ap (λ s. cond b (Some (a_helper (length h.params))) s) w
    ∙ ap (λ n. cond b (Some (a_helper n)) None) (sym many)
    ∙ sym (found_more 0 hs (known_of h) x e ∙ ap (λ z. cond z (Some (a_helper (length (known_of h).params))) None) (turned x h.name b refl))
knows_at hs known h x (Some (j, g)) e w new =
    let b = pointwise ◌==◌ x h.name in
    ap (λ z. cond z (Some (a_helper (length h.params))) (sort_in known x)) (not_taken known x h.name (a_helper (length g.params)) b refl new w)
    ∙ w ∙ ap sort_of_helper (sym (found_kept 0 hs (known_of h ∷ []) x j g e))

knows_more : (hs : List Known) (known : List (List ℕ × Sort)) (h : Helper) → Knows hs known → sort_in known h.name ≡ None → Knows (hs ++ known_of h ∷ []) (with_helper h known)
knows_more hs known h w new x = knows_at hs known h x (helper_of hs x) refl (w x) new

knows_all : (rest : List Helper) (hs : List Known) (known : List (List ℕ × Sort)) → Knows hs known → TypingHelpers known rest → Knows (hs ++ map known_of rest) (known_after known rest)
knows_all [] hs known w keeps = subst (λ gs. Knows gs known) (sym (append-nil hs)) w
knows_all (h ∷ rest) hs known w keeps =
    subst (λ gs. Knows gs (known_after known (h ∷ rest))) (append_assoc hs (known_of h ∷ []) (map known_of rest)) (knows_all rest (hs ++ known_of h ∷ []) (with_helper h known) (knows_more hs known h w keeps.0.rule_21_new) keeps.1)

-- ---- helpers and programs

helper_casts : (hs : List Known) (known : List (List ℕ × Sort)) (h : Helper) → Knows hs known → TypingHelper known h → CastsHelper hs h (cast_helper hs h)
helper_casts hs known h w keeps =
    let names = scope_of h.params [] ∷ known ∷ [] in
    let d = cast_body hs (Some h.result) h.params h.body in
    let t = first_tells hs known h.params w in
    record {
      same_name = refl;
      same_place = refl;
      same_result = refl;
      same_params = refl;
      last = d.after;
      body_casts = body_casts hs names (Some h.result) h.params h.body t keeps.body_keeps;
      value = cast_expr hs d.after h.value;
      value_casts = expr_casts hs (names_after_list names h.body) d.after h.value (body_tells hs names (Some h.result) h.params h.body t) keeps.value_keeps;
      value_is = refl;
      vars_are = refl;
    }

all_cast : (rest : List Helper) (hs : List Known) (known : List (List ℕ × Sort)) → Knows hs known → TypingHelpers known rest → CastsHelpers hs rest (cast_helpers hs rest)
all_cast [] hs known w keeps = casts.no_helpers hs
all_cast (h ∷ rest) hs known w keeps =
    casts.a_helper hs h (cast_helper hs h) rest (cast_helpers (hs ++ known_of h ∷ []) rest) (helper_casts hs known h w keeps.0)
    (all_cast rest (hs ++ known_of h ∷ []) (with_helper h known) (knows_more hs known h w keeps.0.rule_21_new) keeps.1)

none_known : Knows [] []
none_known x = refl

pub program_casts : (p : Program) → TypingProgram p → CastsProgram p (cast_program p)
program_casts p keeps =
    let hs = map known_of p.helpers in
    let known = known_after [] p.helpers in
    let d = cast_body hs p.kernel.result p.kernel.params p.kernel.body in
    record {
      helpers_cast = all_cast p.helpers [] [] none_known keeps.helpers_keep;
      same_name = refl;
      same_place = refl;
      same_result = refl;
      same_params = refl;
      arrays_are = refl;
      last = d.after;
      body_casts = body_casts hs (scope_of p.kernel.params [] ∷ known ∷ []) p.kernel.result p.kernel.params p.kernel.body (first_tells hs known p.kernel.params (knows_all p.helpers [] [] none_known keeps.helpers_keep)) keeps.body_keeps;
      vars_are = refl;
    }

pub typed_exists : TypedExists
typed_exists p keeps = (cast_program p, program_casts p keeps)
