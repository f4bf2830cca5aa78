-- What a statement of a tree that keeps the rules on names is cast to is lawful: over the lists of objects of the whole kernel, of which those of the statements so far are a front.
use Rattle.std.proofs.Common.{◌≡◌, ℕ, ◌+◌, ◌<◌, ◌≤◌, List, [], ◌∷◌, ◌++◌, length, length-append, Option, Some, None, sym, ◌∙◌, ap, subst, arith, inl, inr}
use Rattle.std.proofs.lemmas.Bool.{cases_lt}
use Rattle.std.proofs.lemmas.List.Elements.{Contains-append_left, Contains-append_right}
use Rattle.std.specs.Prelude.{Bool, true, false, Contains, ◌⊎◌}
use mathlib.Core.Former.{Count}
use Rattle.el_base.specs.declared.span.Span.{Span}
use Rattle.el_base.specs.declared.ty.Ty.{Ty}
use Rattle.c_ast.specs.declared.tree.Binary.{Binary}
use Rattle.c_ast.specs.declared.tree.Target.{Target}
use Rattle.c_ast.specs.declared.tree.Expr.{Expr}
use Rattle.c_ast.specs.declared.tree.StmtKind.{StmtKind, Row_of-Stmt, end_of-Stmt, more_of-Stmt, Held-StmtKind-If-2}
use Rattle.c_ast.specs.declared.tree.StmtKind as raw
use Rattle.c_ast.specs.declared.typed.TypedStmtKind.TheBlock.{hidden-the_row-TypedStmt-0, back-TypedStmtKind-If-2}
use Rattle.c_ast.specs.Typing.{IsReturnable, TypingExpr, TypingOption, TypingTarget, TypingStmt, TypingHeld, TypingStmts}
use Rattle.c_meaning.specs.Stores.{Objects}
use Rattle.c_ast.specs.Constants.{NumbersFitExpr, NumbersFitOption, NumbersFitTarget, NumbersFitStmt, NumbersFitHeld, NumbersFitStmts}
use Rattle.c_ast.specs.Casts.{a_var, Context, with_var, opened, closed, converted, assigned_type}
use Rattle.c_meaning.specs.Lawful.{IsVar, LawfulExpr, LawfulAssignment, LawfulDeclaration, LawfulReturn, LawfulStmt, LawfulStmtHeld, LawfulStmts, stmt_vars_of, stmt_vars_held, stmt_vars_row}
use Rattle.c_meaning.proofs.Elaboration.{cast_expr, cast_target, value_as, return_as, cast_stmt, cast_held, cast_stmts}
use Rattle.c_meaning.proofs.Contexts.{sorts_in, sorts_of, with_name_is, held_scopes, names_after_is, names_after_row_is}
use Rattle.c_meaning.proofs.TypeLemmas.{converted_type, assigned_twice}
use Rattle.c_meaning.proofs.LawfulExpressions.{Extends, extends_refl, extends_more, extends_trans, get_extends, get_last, Valid, opened_valid, into_valid, converted_lawful, expr_unconverted, expr_lawful, option_lawful, target_lawful}
use Rattle.c_meaning.proofs.TreeRows.{typed_stmt_rows}

-- ---- the list of variables grows

mutual
  pub stmt_grows : (r : Option Ty) (k : StmtKind) (c : Context) (s : Span) → Extends c.types (cast_stmt r k c s).after.types
  stmt_grows r (raw.Block' n row) c s = stmts_grow r row (opened c)
  stmt_grows r (raw.Declare x t e) c s = extends_more c.types (t ∷ [])
  stmt_grows r (raw.Assign target op e) c s = extends_refl c.types
  stmt_grows r (raw.Step target up) c s = extends_refl c.types
  stmt_grows r (raw.If' e b (more_of-Stmt a at end_of-Stmt) o) c s = extends_trans (stmt_grows r a (opened c) at) (held_grows r o (closed c (cast_stmt r a (opened c) at).after))
  stmt_grows r (raw.While' e b (more_of-Stmt a at end_of-Stmt)) c s = stmt_grows r a (opened c) at
  stmt_grows r (raw.DoWhile' b (more_of-Stmt a at end_of-Stmt) e) c s = stmt_grows r a (opened c) at
  stmt_grows r (raw.For' n row e o b (more_of-Stmt a at end_of-Stmt)) c s =
      let d = cast_stmts r row (opened c) in
      extends_trans (stmts_grow r row (opened c)) (extends_trans (held_grows r o d.after) (stmt_grows r a (opened (cast_held r o d.after).after) at))
  stmt_grows r raw.Break c s = extends_refl c.types
  stmt_grows r raw.Continue c s = extends_refl c.types
  stmt_grows r (raw.Return e) c s = extends_refl c.types
  stmt_grows r raw.Empty c s = extends_refl c.types

  pub held_grows : (r : Option Ty) (o : Held-StmtKind-If-2) (c : Context) → Extends c.types (cast_held r o c).after.types
  held_grows r raw.None' c = extends_refl c.types
  held_grows r (raw.Some' b (more_of-Stmt a at end_of-Stmt)) c = stmt_grows r a (opened c) at

  pub stmts_grow : (r : Option Ty) {n : Count} (row : Row_of-Stmt n) (c : Context) → Extends c.types (cast_stmts r row c).after.types
  stmts_grow r end_of-Stmt c = extends_refl c.types
  stmts_grow r (more_of-Stmt a at row) c = extends_trans (stmt_grows r a c at) (stmts_grow r row (cast_stmt r a c at).after)

-- ---- the names in force stay names of objects

-- a new variable has its type
pub new_var : (k : Objects) (x : List ℕ) (t : Ty) (c : Context) → Extends (with_var x t c).types k.vars → IsVar k (length c.types) t
new_var k x t c e = get_extends (with_var x t c).types k.vars (length c.types) t e (get_last c.types t)

var_valid : (k : Objects) (x : List ℕ) (t : Ty) (c : Context) → Extends (with_var x t c).types k.vars → Valid k c.scopes → Valid k (with_var x t c).scopes
var_valid k x t c e v = into_valid k c.scopes x (a_var (length c.types) t) (new_var k x t c e) v

held_valid : (k : Objects) (r : Option Ty) (o : Held-StmtKind-If-2) (c : Context) → Valid k c.scopes → Valid k (cast_held r o c).after.scopes
held_valid k r o c v = subst (λ ss. Valid k ss) (sym (held_scopes r o c)) v

after_valid : (k : Objects) (r : Option Ty) (a : StmtKind) (c : Context) (s : Span) → Extends (cast_stmt r a c s).after.types k.vars → Valid k c.scopes → Valid k (cast_stmt r a c s).after.scopes
after_valid k r (raw.Declare x t e) c s g v = var_valid k x t c g v
after_valid k r (raw.If' e b (more_of-Stmt a at end_of-Stmt) o) c s g v = held_valid k r o (closed c (cast_stmt r a (opened c) at).after) v
after_valid k r (raw.Block' n row) c s g v = v
after_valid k r (raw.Assign target op e) c s g v = v
after_valid k r (raw.Step target up) c s g v = v
after_valid k r (raw.While' e b (more_of-Stmt a at end_of-Stmt)) c s g v = v
after_valid k r (raw.DoWhile' b (more_of-Stmt a at end_of-Stmt) e) c s g v = v
after_valid k r (raw.For' n row e o b (more_of-Stmt a at end_of-Stmt)) c s g v = v
after_valid k r raw.Break c s g v = v
after_valid k r raw.Continue c s g v = v
after_valid k r (raw.Return e) c s g v = v
after_valid k r raw.Empty c s g v = v

row_valid : (k : Objects) (r : Option Ty) {n : Count} (row : Row_of-Stmt n) (c : Context) → Extends (cast_stmts r row c).after.types k.vars → Valid k c.scopes → Valid k (cast_stmts r row c).after.scopes
row_valid k r end_of-Stmt c g v = v
row_valid k r (more_of-Stmt a at row) c g v =
    let d = cast_stmt r a c at in row_valid k r row d.after g (after_valid k r a c at (extends_trans (stmts_grow r row d.after) g) v)

-- ---- statements

value_lawful : (k : Objects) (t : Ty) (v : ℕ) (c : Context) → Valid k c.scopes → (e : Option Expr) → IsVar k v t → TypingOption (sorts_of c) e → NumbersFitOption e → LawfulDeclaration k (LawfulExpr k) v (value_as t c e)
value_lawful k t v c w None i h f = (t, i)
value_lawful k t v c w (Some e) i h f =
    (subst (λ u. IsVar k v u) (sym (converted_type t (cast_expr c e))) i, converted_lawful k t (cast_expr c e) (expr_unconverted k c w e h f))

assignment_lawful : (k : Objects) (c : Context) → Valid k c.scopes → (x : Target) (o : Option Binary) (e : Expr) → TypingTarget (sorts_of c) x → TypingExpr (sorts_of c) e → NumbersFitTarget x → NumbersFitExpr e
    → LawfulAssignment k (LawfulExpr k) (cast_target c x).to o (converted (assigned_type o (cast_target c x).ty (cast_expr c e).ty) (cast_expr c e))
assignment_lawful k c v x o e h i f g =
    let t = (cast_target c x).ty in
    let u = assigned_type o t (cast_expr c e).ty in
    let p : (converted u (cast_expr c e)).ty ≡ u = converted_type u (cast_expr c e) in
    (t, target_lawful k c v x h f, p ∙ assigned_twice o t (cast_expr c e).ty ∙ ap (assigned_type o t) (sym p), converted_lawful k u (cast_expr c e) (expr_unconverted k c v e i g))

return_lawful : (k : Objects) (r : Option Ty) (c : Context) → Valid k c.scopes → (e : Option Expr) → IsReturnable r e → TypingOption (sorts_of c) e → NumbersFitOption e → LawfulReturn (LawfulExpr k) r (return_as r c e)
return_lawful k None c v None i h f = tt
return_lawful k (Some t) c v None i h f = absurd i
return_lawful k None c v (Some e) i h f = absurd i
return_lawful k (Some t) c v (Some e) i h f = (converted_type t (cast_expr c e), converted_lawful k t (cast_expr c e) (expr_unconverted k c v e h f))

mutual
  unfolding typed_stmt_rows

  pub stmt_lawful : (k : Objects) (r : Option Ty) (loop : Bool) (a : StmtKind) (c : Context) (s : Span) → TypingStmt a r loop (sorts_of c) → NumbersFitStmt a → Valid k c.scopes
      → Extends (cast_stmt r a c s).after.types k.vars → LawfulStmt k r loop (cast_stmt r a c s).value.kind
  stmt_lawful k r loop (raw.Block' n row) c s h f v g = stmts_lawful k r loop row (opened c) h f (opened_valid k c.scopes v) g
  stmt_lawful k r loop (raw.Declare x t e) c s h f v g =
      value_lawful k t (length c.types) (with_var x t c) (var_valid k x t c g v) e (new_var k x t c g) (subst (λ ns. TypingOption ns e) (with_name_is c x t) h.1) f
  stmt_lawful k r loop (raw.Assign target op e) c s h f v g = assignment_lawful k c v target op e h.0 h.1 f.0 f.1
  stmt_lawful k r loop (raw.Step target up) c s h f v g = ((cast_target c target).ty, target_lawful k c v target h f)
  stmt_lawful k r loop (raw.If' e b (more_of-Stmt a at end_of-Stmt) o) c s h f v g =
      let d = cast_stmt r a (opened c) at in (
        expr_lawful k c v e h.0 f.0,
        stmt_lawful k r loop a (opened c) at h.1 f.1 (opened_valid k c.scopes v) (extends_trans (held_grows r o (closed c d.after)) g),
        held_lawful k r loop o (closed c d.after) h.2 f.2 v g,
      )
  stmt_lawful k r loop (raw.While' e b (more_of-Stmt a at end_of-Stmt)) c s h f v g =
      (expr_lawful k c v e h.0 f.0, stmt_lawful k r true a (opened c) at h.1 f.1 (opened_valid k c.scopes v) g)
  stmt_lawful k r loop (raw.DoWhile' b (more_of-Stmt a at end_of-Stmt) e) c s h f v g =
      (stmt_lawful k r true a (opened c) at h.0 f.0 (opened_valid k c.scopes v) g, expr_lawful k c v e h.1 f.1)
  stmt_lawful k r loop (raw.For' n row e o b (more_of-Stmt a at end_of-Stmt)) c s h f v g =
      let d = cast_stmts r row (opened c) in
      let p = cast_held r o d.after in
      let names = names_after_row_is r row (opened c) in
      let last : Extends p.after.types k.vars = extends_trans (stmt_grows r a (opened p.after) at) g in
      let mid : Extends d.after.types k.vars = extends_trans (held_grows r o d.after) last in
      let w : Valid k d.after.scopes = row_valid k r row (opened c) mid (opened_valid k c.scopes v) in (
        stmts_lawful k r false row (opened c) h.0 f.0 (opened_valid k c.scopes v) mid,
        option_lawful k d.after w e (subst (λ ns. TypingOption ns e) names h.1) f.1,
        held_lawful k r false o d.after (subst (λ ns. TypingHeld o r false ns) names h.2) f.2 w last,
        stmt_lawful k r true a (opened p.after) at (subst (λ ns. TypingStmt a r true ([] ∷ ns)) (names ∙ ap sorts_in (sym (held_scopes r o d.after))) h.3) f.3
            (opened_valid k p.after.scopes (held_valid k r o d.after w)) g,
      )
  stmt_lawful k r loop raw.Break c s h f v g = h
  stmt_lawful k r loop raw.Continue c s h f v g = h
  stmt_lawful k r loop (raw.Return e) c s h f v g = return_lawful k r c v e h.0 h.1 f
  stmt_lawful k r loop raw.Empty c s h f v g = tt

  pub held_lawful : (k : Objects) (r : Option Ty) (loop : Bool) (o : Held-StmtKind-If-2) (c : Context) → TypingHeld o r loop (sorts_of c) → NumbersFitHeld o → Valid k c.scopes
      → Extends (cast_held r o c).after.types k.vars → LawfulStmtHeld k r loop (back-TypedStmtKind-If-2 (cast_held r o c).value)
  held_lawful k r loop raw.None' c h f v g = tt
  held_lawful k r loop (raw.Some' b (more_of-Stmt a at end_of-Stmt)) c h f v g = stmt_lawful k r loop a (opened c) at h f (opened_valid k c.scopes v) g

  pub stmts_lawful : (k : Objects) (r : Option Ty) (loop : Bool) {n : Count} (row : Row_of-Stmt n) (c : Context) → TypingStmts row r loop (sorts_of c) → NumbersFitStmts row → Valid k c.scopes
      → Extends (cast_stmts r row c).after.types k.vars → LawfulStmts k r loop (hidden-the_row-TypedStmt-0 (cast_stmts r row c).value)
  stmts_lawful k r loop end_of-Stmt c h f v g = tt
  stmts_lawful k r loop (more_of-Stmt a at row) c h f v g =
      let d = cast_stmt r a c at in
      let first : Extends d.after.types k.vars = extends_trans (stmts_grow r row d.after) g in (
        stmt_lawful k r loop a c at h.0 f.0 v first,
        stmts_lawful k r loop row d.after (subst (λ ns. TypingStmts row r loop ns) (names_after_is r a c at) h.1) f.1 (after_valid k r a c at first v) g,
      )

-- ---- each new variable is declared

-- those of two parts, the one after the other
in_either : (xs ys : List ℕ) (v m : ℕ) → (v < m → Contains xs v) → (m ≤ v → Contains ys v) → Contains (xs ++ ys) v
in_either xs ys v m p q =
    let cases : (v < m) ⊎ (m ≤ v) = cases_lt v m in
    elim cases [ inl l ↦ Contains-append_left xs ys v (p l) | inr l ↦ Contains-append_right xs ys v (q l) ]

none_new : (xs : List Ty) (v : ℕ) (used : List ℕ) → length xs ≤ v → v < length xs → Contains used v
none_new xs v used l m = absurd (omega arith)

one_new : (xs : List Ty) (t : Ty) (v : ℕ) → length xs ≤ v → v < length (xs ++ t ∷ []) → Contains (length xs ∷ []) v
one_new xs t v l m =
    let e : length (xs ++ t ∷ []) ≡ length xs + length (t ∷ []) = length-append xs (t ∷ []) in
    (0, omega arith, omega arith)

mutual
  unfolding typed_stmt_rows

  pub stmt_covers : (r : Option Ty) (a : StmtKind) (c : Context) (s : Span) (v : ℕ) → length c.types ≤ v → v < length (cast_stmt r a c s).after.types → Contains (stmt_vars_of (cast_stmt r a c s).value.kind) v
  stmt_covers r (raw.Block' n row) c s v l m = stmts_cover r row (opened c) v l m
  stmt_covers r (raw.Declare x t e) c s v l m = one_new c.types t v l m
  stmt_covers r (raw.Assign target op e) c s v l m = none_new c.types v _ l m
  stmt_covers r (raw.Step target up) c s v l m = none_new c.types v _ l m
  stmt_covers r (raw.If' e b (more_of-Stmt a at end_of-Stmt) o) c s v l m =
      let d = cast_stmt r a (opened c) at in
      in_either _ _ v (length d.after.types) (λ n. stmt_covers r a (opened c) at v l n) (λ n. held_covers r o (closed c d.after) v n m)
  stmt_covers r (raw.While' e b (more_of-Stmt a at end_of-Stmt)) c s v l m = stmt_covers r a (opened c) at v l m
  stmt_covers r (raw.DoWhile' b (more_of-Stmt a at end_of-Stmt) e) c s v l m = stmt_covers r a (opened c) at v l m
  stmt_covers r (raw.For' n row e o b (more_of-Stmt a at end_of-Stmt)) c s v l m =
      let d = cast_stmts r row (opened c) in
      let p = cast_held r o d.after in
      in_either _ _ v (length p.after.types)
      (λ j. in_either _ _ v (length d.after.types) (λ i. stmts_cover r row (opened c) v l i) (λ i. held_covers r o d.after v i j))
      (λ j. stmt_covers r a (opened p.after) at v j m)
  stmt_covers r raw.Break c s v l m = none_new c.types v [] l m
  stmt_covers r raw.Continue c s v l m = none_new c.types v [] l m
  stmt_covers r (raw.Return e) c s v l m = none_new c.types v [] l m
  stmt_covers r raw.Empty c s v l m = none_new c.types v [] l m

  pub held_covers : (r : Option Ty) (o : Held-StmtKind-If-2) (c : Context) (v : ℕ) → length c.types ≤ v → v < length (cast_held r o c).after.types → Contains (stmt_vars_held (back-TypedStmtKind-If-2 (cast_held r o c).value)) v
  held_covers r raw.None' c v l m = none_new c.types v [] l m
  held_covers r (raw.Some' b (more_of-Stmt a at end_of-Stmt)) c v l m = stmt_covers r a (opened c) at v l m

  pub stmts_cover : (r : Option Ty) {n : Count} (row : Row_of-Stmt n) (c : Context) (v : ℕ) → length c.types ≤ v → v < length (cast_stmts r row c).after.types → Contains (stmt_vars_row (hidden-the_row-TypedStmt-0 (cast_stmts r row c).value)) v
  stmts_cover r end_of-Stmt c v l m = none_new c.types v [] l m
  stmts_cover r (more_of-Stmt a at row) c v l m =
      let d = cast_stmt r a c at in
      in_either _ _ v (length d.after.types) (λ n. stmt_covers r a c at v l n) (λ n. stmts_cover r row d.after v n m)
