-- What a statement of a program is cast to is lawful, and reads and assigns variables in scope alone.
use Rattle.std.proofs.Common.{◌≡◌, ℕ, List, [], ◌∷◌, length, Option, Some, None, refl, sym, ◌∙◌, ap, subst, arith}
use Rattle.std.proofs.lemmas.List.Elements.{All-nil, All-cons, All-head, All-tail}
use Rattle.std.specs.Prelude.{Bool, true, false, IsTrue, All}
use Rattle.el_base.specs.declared.ty.Ty.{Ty}
use Rattle.c_ast.specs.declared.tree.Target.{Target}
use Rattle.c_ast.specs.declared.tree.Expr.{Expr}
use Rattle.c_ast.specs.declared.tree.ExprKind.TheBlock.{hidden-the_row-Expr-0}
use Rattle.c_ast.specs.declared.tree.Stmt.{Stmt}
use Rattle.c_ast.specs.declared.tree.StmtKind.TheBlock.{hidden-the_row-Stmt-0, back-StmtKind-If-2}
use Rattle.c_ast.specs.declared.program.ProgTarget.{ProgTarget}
use Rattle.c_ast.specs.declared.program.ProgExpr.{ProgExpr}
use Rattle.c_ast.specs.declared.program.ProgStmt.{ProgStmt}
use Rattle.c_ast.specs.declared.program.ProgStmtKind.TheBlock.{hidden-the_row-ProgStmt-0, back-ProgStmtKind-If-2}
use Rattle.c_ast.specs.Casts.{Context, assigned_type}
use Rattle.c_ast.specs.Constants.{NumbersFitRow, NumbersFitExpr, NumbersFitOption, NumbersFitTarget, NumbersFitStmt, NumbersFitHeld, NumbersFitStmts}
use Rattle.c_ast.specs.Programs.{CallsStandIn, StandsAt, StandsIfAny, CallsStandStmt, CallsStandHeld, CallsStandStmts}
use Rattle.c_ast.specs.ProgramCasts.{Known, prog_converted, CastsCallTarget, CastsCallOption, CastsCallStmt, CastsCallHeld, CastsCallStmts}
use Rattle.c_ast.specs.ProgramCasts as casts
use Rattle.c_ast.specs.Typing.{Names, with_name, IsUsable, IsReturnable, TypingRow, TypingExpr, TypingOption, TypingTarget, names_after, names_after_row, TypingStmt, TypingHeld, TypingStmts}
use Rattle.c_meaning.specs.Stores.{Objects}
use Rattle.c_meaning.specs.Lawful.{IsVar}
use Rattle.c_meaning.proofs.LawfulExpressions.{Extends, extends_trans}
use Rattle.c_meaning.proofs.TypeLemmas.{assigned_twice}
use Rattle.c_meaning.proofs.LawfulStatements.{new_var}
use Rattle.c_calls.specs.Lawful.{Signature, LawfulCallExpr, IfAnyExpr, LawfulCallTarget, LawfulCallReturn, LawfulCallStmt, LawfulCallHeld, LawfulCallStmts, ReadsAt, IsTargetOf, in_scope_after, in_scope_after_row, IsScoped, IsHeldScoped, AreScoped}
use Rattle.c_ast.specs.OfTexts.{ReturnsWhere, HeldReturnsWhere, RowReturnsWhere}
use Rattle.c_calls.proofs.CastExprs.{gs, converted_has, Fits, converted_lawful, var_at, array_at, expr_fit, exprs_fit, casts_long, converted_reads, AllRead, expr_reads, exprs_read}
use Rattle.c_calls.proofs.CastStmts.{stmt_grows, held_grows, stmts_grow, grown, Stands, opens, later, declares_one, held_after, stmt_after, stmts_after}
use Rattle.c_meaning.proofs.TreeRows.{expr_rows, stmt_rows}
use Rattle.c_calls.proofs.TreeRows.{prog_stmt_rows}

-- ---- lists and rows

row_typing : (names : Names) (es : List Expr) → All (TypingExpr names) es → TypingRow names (hidden-the_row-Expr-0 es)
unfolding expr_rows
row_typing names [] h = tt
row_typing names (e ∷ es) h = (All-head (TypingExpr names) e es h, row_typing names es (All-tail (TypingExpr names) e es h))

row_fits : (es : List Expr) → All NumbersFitExpr es → NumbersFitRow (hidden-the_row-Expr-0 es)
unfolding expr_rows
row_fits [] h = tt
row_fits (e ∷ es) h = (All-head NumbersFitExpr e es h, row_fits es (All-tail NumbersFitExpr e es h))

row_stands : (may : Bool) (es : List Expr) → All (StandsAt may) es → CallsStandIn may (hidden-the_row-Expr-0 es)
unfolding expr_rows
row_stands may [] h = tt
row_stands may (e ∷ es) h = (All-head (StandsAt may) e es h, row_stands may es (All-tail (StandsAt may) e es h))

all_lawful : (k : Objects) (hs : List Known) (may : Bool) (fs : List ProgExpr) → Fits k hs may fs → All (LawfulCallExpr k (gs k hs) may) fs
all_lawful k hs may [] h = All-nil (LawfulCallExpr k (gs k hs) may)
all_lawful k hs may (f ∷ fs) h = All-cons (LawfulCallExpr k (gs k hs) may) f fs h.0.lawful (all_lawful k hs may fs h.1)

all_read : (vs : List ℕ) (fs : List ProgExpr) → AllRead vs fs → All (ReadsAt vs) fs
all_read vs [] h = All-nil (ReadsAt vs)
all_read vs (f ∷ fs) h = All-cons (ReadsAt vs) f fs h.0 (all_read vs fs h.1)

module _ (k : Objects) (hs : List Known) (ret : Bool) (q : Option (Option Ty)) where
  abbrev sigs : List Signature
  sigs = gs k hs

  -- ---- parts of statements

  record FitTarget (to : ProgTarget) (t : Ty) (vs : List ℕ) : Type 0 where
    lawful : LawfulCallTarget k sigs to t
    scoped : IsTargetOf vs to

  target_fit : {c : Context} {target : Target} {to : ProgTarget} {t : Ty} (names : Names) (vs : List ℕ) → Stands k names c.scopes (length c.types) vs → CastsCallTarget hs c target to t → TypingTarget names target → NumbersFitTarget target → All (StandsAt true) target.indices → FitTarget to t vs
  target_fit names vs w (casts.to_var c x v t s d) h i j = record { lawful = ((var_at k hs names c.scopes x v t w.scoped d, refl), All-nil (LawfulCallExpr k sigs true)); scoped = (w.sees x v t d, All-nil (ReadsAt vs)) }
  target_fit names vs w (casts.to_element c x a t ds e es fs s d all) h i j =
      let us = e ∷ es in
      let many : length us ≡ length fs = sym (casts_long all) in
      let is = exprs_fit k hs names true w.scoped all (row_typing names us h.1) (row_fits us i) (row_stands true us j) in
      record {
        lawful = (array_at k hs names c.scopes x a t ds (length fs) w.scoped d (subst (λ n. IsUsable names x n) many h.0), all_lawful k hs true fs is);
        scoped = (tt, all_read vs fs (exprs_read vs w.sees all));
      }

  -- what may be absent
  option_fit : {c : Context} {e : Option Expr} {f : Option ProgExpr} (names : Names) (vs : List ℕ) (may : Bool) → Stands k names c.scopes (length c.types) vs → CastsCallOption hs c e f → TypingOption names e → NumbersFitOption e → StandsIfAny may e
      → IfAnyExpr (LawfulCallExpr k sigs may) f × IfAnyExpr (ReadsAt vs) f
  option_fit names vs may w (casts.absent c) h i j = (tt, tt)
  option_fit names vs may w (casts.present c e f p) h i j = ((expr_fit k hs names may w.scoped p h i j).lawful, expr_reads vs w.sees p)

  nothing_returned : (r : Option Ty) → IsReturnable r None → q ≡ Some r → LawfulCallReturn (LawfulCallExpr k sigs true) q None
  nothing_returned None h e = subst (λ z. LawfulCallReturn (LawfulCallExpr k sigs true) z None) (sym e) tt
  nothing_returned (Some t) h e = absurd h

  value_returned : (t : Ty) (f : ProgExpr) → f.ty ≡ t → LawfulCallExpr k sigs true f → q ≡ Some (Some t) → LawfulCallReturn (LawfulCallExpr k sigs true) q (Some f)
  value_returned t f same l e = subst (λ z. LawfulCallReturn (LawfulCallExpr k sigs true) z (Some f)) (sym e) (same, l)

  -- ---- statements

  record FitStmt (loop : Bool) (b : ProgStmt) (vs : List ℕ) : Type 0 where
    lawful : LawfulCallStmt k sigs q loop b.kind
    scoped : IsScoped b.kind vs

  record FitHeld (loop : Bool) (p : Option ProgStmt) (vs : List ℕ) : Type 0 where
    lawful : LawfulCallHeld k sigs q loop (back-ProgStmtKind-If-2 p)
    scoped : IsHeldScoped (back-ProgStmtKind-If-2 p) vs

  pub record FitStmts (loop : Bool) (ts : List ProgStmt) (vs : List ℕ) : Type 0 where
    pub lawful : LawfulCallStmts k sigs q loop (hidden-the_row-ProgStmt-0 ts)
    pub scoped : AreScoped (hidden-the_row-ProgStmt-0 ts) vs

  mutual
    unfolding stmt_rows prog_stmt_rows

    stmt_fit : {r : Option Ty} {c d : Context} {a : Stmt} {b : ProgStmt} (names : Names) (vs : List ℕ) (loop : Bool) → (IsTrue ret → q ≡ Some r) → Stands k names c.scopes (length c.types) vs → Extends d.types k.vars → CastsCallStmt hs r c a b d
        → TypingStmt a.kind r loop names → NumbersFitStmt a.kind → CallsStandStmt a.kind → ReturnsWhere ret a.kind → FitStmt loop b vs
    stmt_fit names vs loop at w g (casts.block r c d ss ts s p) h i j l =
        let o = stmts_fit ([] ∷ names) vs loop at (opens k names c.scopes (length c.types) vs w) g p h i j l in record { lawful = o.lawful; scoped = o.scoped }
    stmt_fit names vs loop at w g (casts.declare r c x t s) h i j l = record { lawful = (t, new_var k x t c g); scoped = ((λ m. let b = w.below (length c.types) m in omega arith), tt) }
    stmt_fit names vs loop at w g (casts.declare_value r c x t e f s p) h i j l =
        let v = length c.types in
        let after = declares_one k names x t c vs g w in
        let o = expr_fit k hs (with_name x names) true after.scoped p h.1 i j in
        record {
          lawful = (subst (λ u. IsVar k v u) (sym (converted_has t f)) (new_var k x t c g), converted_lawful k hs true t f o);
          scoped = ((λ m. let b = w.below v m in omega arith), converted_reads (v ∷ vs) t f (expr_reads (v ∷ vs) after.sees p));
        }
    stmt_fit names vs loop at w g (casts.assign r c target to t op e f s p u) h i j l =
        let o = target_fit names vs w p h.0 i.0 j.0 in
        let o2 = expr_fit k hs names true w.scoped u h.1 i.1 j.1 in
        let z = assigned_type op t f.ty in
        let has = converted_has z f in
        record {
          lawful = (t, o.lawful, has ∙ assigned_twice op t f.ty ∙ ap (assigned_type op t) (sym has), converted_lawful k hs true z f o2);
          scoped = (o.scoped, converted_reads vs z f (expr_reads vs w.sees u));
        }
    stmt_fit names vs loop at w g (casts.step r c target to t up s p) h i j l = let o = target_fit names vs w p h i j in record { lawful = (t, o.lawful); scoped = o.scoped }
    stmt_fit names vs loop at w g (casts.choice r c d d2 e f a b o p s x y z) h i j l =
        let first = extends_trans (held_grows hs z) g in
        let one = expr_fit k hs names true w.scoped x h.0 i.0 j.0 in
        let two = stmt_fit ([] ∷ names) vs loop at (opens k names c.scopes (length c.types) vs w) first y h.1 i.1 j.1 l.0 in
        let mid = later k names c.scopes (length c.types) (length d.types) vs (grown c.types d.types (stmt_grows hs y)) w in
        let three = held_fit names vs loop at mid g z h.2 i.2 j.2 l.1 in
        record { lawful = (one.lawful, two.lawful, three.lawful); scoped = (expr_reads vs w.sees x, two.scoped, three.scoped) }
    stmt_fit names vs loop at w g (casts.while_loop r c d e f a b s x y) h i j l =
        let one = expr_fit k hs names false w.scoped x h.0 i.0 j.0 in
        let two = stmt_fit ([] ∷ names) vs true at (opens k names c.scopes (length c.types) vs w) g y h.1 i.1 j.1 l in
        record { lawful = (one.lawful, two.lawful); scoped = (expr_reads vs w.sees x, two.scoped) }
    stmt_fit names vs loop at w g (casts.do_loop r c d e f a b s x y) h i j l =
        let one = stmt_fit ([] ∷ names) vs true at (opens k names c.scopes (length c.types) vs w) g x h.0 i.0 j.0 l in
        let two = expr_fit k hs names false w.scoped y h.1 i.1 j.1 in
        record { lawful = (one.lawful, two.lawful); scoped = (one.scoped, expr_reads vs w.sees y) }
    stmt_fit names vs loop at w g (casts.for_loop r c d d2 d3 ss ts e f o p a b s x y z v) h i j l =
        let last = extends_trans (stmt_grows hs v) g in
        let mid = extends_trans (held_grows hs z) last in
        let w1 = opens k names c.scopes (length c.types) vs w in
        let names1 = names_after_row ([] ∷ names) (hidden-the_row-Stmt-0 ss) in
        let vs1 = in_scope_after_row vs (hidden-the_row-ProgStmt-0 ts) in
        let w2 = stmts_after k hs ([] ∷ names) vs x mid w1 in
        let w3 = held_after k hs names1 vs1 z w2 in
        let one = stmts_fit ([] ∷ names) vs false at w1 mid x h.0 i.0 j.0 l.0 in
        let two = option_fit names1 vs1 false w2 y h.1 i.1 j.1 in
        let three = held_fit names1 vs1 false at w2 last z h.2 i.2 j.2 l.1 in
        let four = stmt_fit ([] ∷ names1) vs1 true at (opens k names1 d2.scopes (length d2.types) vs1 w3) g v h.3 i.3 j.3 l.2 in
        record { lawful = (one.lawful, two.0, three.lawful, four.lawful); scoped = (one.scoped, two.1, three.scoped, four.scoped) }
    stmt_fit names vs loop at w g (casts.leaving r c s) h i j l = record { lawful = h; scoped = tt }
    stmt_fit names vs loop at w g (casts.continuing r c s) h i j l = record { lawful = h; scoped = tt }
    stmt_fit names vs loop at w g (casts.return_nothing r c s) h i j l = record { lawful = nothing_returned r h.0 (at l); scoped = tt }
    stmt_fit names vs loop at w g (casts.return_value t c e f s p) h i j l =
        record { lawful = value_returned t (prog_converted t f) (converted_has t f) (converted_lawful k hs true t f (expr_fit k hs names true w.scoped p h.1 i j)) (at l); scoped = converted_reads vs t f (expr_reads vs w.sees p) }
    stmt_fit names vs loop at w g (casts.empty r c s) h i j l = record { lawful = tt; scoped = tt }

    held_fit : {r : Option Ty} {c d : Context} {o : Option Stmt} {p : Option ProgStmt} (names : Names) (vs : List ℕ) (loop : Bool) → (IsTrue ret → q ≡ Some r) → Stands k names c.scopes (length c.types) vs → Extends d.types k.vars → CastsCallHeld hs r c o p d
        → TypingHeld (back-StmtKind-If-2 o) r loop names → NumbersFitHeld (back-StmtKind-If-2 o) → CallsStandHeld (back-StmtKind-If-2 o) → HeldReturnsWhere ret (back-StmtKind-If-2 o) → FitHeld loop p vs
    held_fit names vs loop at w g (casts.no_statement r c) h i j l = record { lawful = tt; scoped = tt }
    held_fit names vs loop at w g (casts.a_statement r c d a b p) h i j l =
        let o = stmt_fit ([] ∷ names) vs loop at (opens k names c.scopes (length c.types) vs w) g p h i j l in record { lawful = o.lawful; scoped = o.scoped }

    pub stmts_fit : {r : Option Ty} {c d : Context} {ss : List Stmt} {ts : List ProgStmt} (names : Names) (vs : List ℕ) (loop : Bool) → (IsTrue ret → q ≡ Some r) → Stands k names c.scopes (length c.types) vs → Extends d.types k.vars → CastsCallStmts hs r c ss ts d
        → TypingStmts (hidden-the_row-Stmt-0 ss) r loop names → NumbersFitStmts (hidden-the_row-Stmt-0 ss) → CallsStandStmts (hidden-the_row-Stmt-0 ss) → RowReturnsWhere ret (hidden-the_row-Stmt-0 ss) → FitStmts loop ts vs
    stmts_fit names vs loop at w g (casts.done r c) h i j l = record { lawful = tt; scoped = tt }
    stmts_fit names vs loop at w g (casts.more r c d d2 a b ss ts p q0) h i j l =
        let mid = extends_trans (stmts_grow hs q0) g in
        let one = stmt_fit names vs loop at w mid p h.0 i.0 j.0 l.0 in
        let two = stmts_fit (names_after names a.kind) (in_scope_after vs b.kind) loop at (stmt_after k hs names vs p mid w) g q0 h.1 i.1 j.1 l.1 in
        record { lawful = (one.lawful, two.lawful); scoped = (one.scoped, two.scoped) }
