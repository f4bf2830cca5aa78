-- What each call made joins to what the whole makes: statements.
use Rattle.std.proofs.Common.{◌≡◌, ℕ, ◌+◌, List, [], ◌++◌, length, sym, ◌∙◌, ap, subst, Option}
use Rattle.el_base.specs.declared.span.Span.{Span}
use Rattle.el_base.specs.declared.ty.Ty.{Ty}
use Rattle.c_ast.specs.declared.typed.TypedExpr.{TypedExpr}
use Rattle.c_ast.specs.declared.typed.TypedStmt.{TypedStmt}
use Rattle.c_ast.specs.declared.typed.TypedStmtKind.{TypedStmtKind}
use Rattle.c_ast.specs.declared.typed.TypedStmtKind.TheVariants as stmt
use Rattle.c_ast.specs.Casts.{act_at}
use Rattle.c_ast.specs.declared.program.ProgExpr.{ProgExpr}
use Rattle.c_ast.specs.declared.program.ProgStmt.{ProgStmt}
use Rattle.c_ast.specs.declared.program.ProgStmtKind.TheVariants as act
use Rattle.c_ast.specs.declared.program.TypedHelper.{TypedHelper}
use Rattle.c_calls.specs.Inlined.{OutStmt, rest_of, behind}
use Rattle.c_inline.specs.Making.{out_of, option_of, stmt_of, stmts_of, held_of, Makes, IsOption, IsStmt, Becomes, IsHeld, AreStmts}
use Rattle.c_inline.proofs.Parts.{block_stmt, if_stmt, for_stmt, stmt_block, stmt_if, stmt_for}
use Rattle.c_inline.proofs.Fits.{longer}
use Rattle.c_meaning.proofs.ListParts.{behind as then}

as_stmt : (o o2 : OutStmt) (at : Span) (v v2 : List Ty) (x : TypedStmt) → o ≡ o2 → IsStmt o2 at v v2 x → IsStmt o at v v2 x
as_stmt o o2 at v v2 x e p = subst (λ z. IsStmt z at v v2 x) (sym e) p

pub block_becomes : (hs : List TypedHelper) (b : ℕ) (s : ProgStmt) (ss zs : List ProgStmt) (c0 c : List TypedStmt) (v v2 : List Ty) (x : TypedStmt) → s.kind ≡ act.Block ss → zs ≡ ss → c0 ≡ [] → AreStmts (stmts_of hs b (length v) zs) c0 v c v2 → x ≡ act_at (stmt.Block c) s.at → Becomes hs b s v v2 x
block_becomes hs b s ss zs c0 c v v2 x is zse ce h xe =
    let o = stmts_of hs b (length v) ss in
    let p = subst (λ l. AreStmts (stmts_of hs b (length v) l) c0 v c v2) zse h in
    as_stmt _ (block_stmt o) s.at v v2 x (stmt_block hs b (length v) s ss is) (record { rest = xe ∙ ap (λ l. act_at (stmt.Block l) s.at) (p.set ∙ ap (λ l. l ++ o.stmts) ce); made = p.made })

-- with its variables numbered from n on
stmt_at_number : (hs : List TypedHelper) (b n : ℕ) (s : ProgStmt) (v v2 : List Ty) (x : TypedStmt) → length v ≡ n → Becomes hs b s v v2 x → IsStmt (stmt_of hs b n s) s.at v v2 x
stmt_at_number hs b n s v v2 x h p = subst (λ n. IsStmt (stmt_of hs b n s) s.at v v2 x) h p

held_at_number : (hs : List TypedHelper) (b n : ℕ) (o : Option ProgStmt) (v v2 : List Ty) (r : Option TypedStmt) → length v ≡ n → IsHeld (held_of hs b (length v) o) v v2 r → IsHeld (held_of hs b n o) v v2 r
held_at_number hs b n o v v2 r h p = subst (λ n. IsHeld (held_of hs b n o) v v2 r) h p

option_at_number : (hs : List TypedHelper) (b n : ℕ) (e : Option ProgExpr) (b0 : List TypedStmt) (v : List Ty) (b1 : List TypedStmt) (v2 : List Ty) (r : Option TypedExpr) → length v ≡ n → IsOption (option_of hs b (length v) e) b0 v b1 v2 r → IsOption (option_of hs b n e) b0 v b1 v2 r
option_at_number hs b n e b0 v b1 v2 r h p = subst (λ n. IsOption (option_of hs b n e) b0 v b1 v2 r) h p

pub if_becomes : (hs : List TypedHelper) (b : ℕ) (s : ProgStmt) (e : ProgExpr) (y : ProgStmt) (o : Option ProgStmt) (b0 b1 : List TypedStmt) (v v1 v2 v3 : List Ty) (c : TypedExpr) (y1 : TypedStmt) (r : Option TypedStmt) (k : TypedStmtKind) (x : TypedStmt)
    → s.kind ≡ act.If e y o → b0 ≡ [] → Makes hs b e b0 v b1 v1 c → Becomes hs b y v1 v2 y1 → IsHeld (held_of hs b (length v2) o) v2 v3 r → k ≡ behind b1 (stmt.If c y1 r) s.at → x ≡ act_at k s.at → Becomes hs b s v v3 x
if_becomes hs b s e y o b0 b1 v v1 v2 v3 c y1 r k x is be h i j ke xe =
    let z = out_of hs b (length v) e in
    let n = length v + length z.types in
    let m = stmt_of hs b n y in
    let l = longer v v1 z.types h.made in
    let p = stmt_at_number hs b n y v1 v2 y1 l i in
    let n2 = n + length m.types in
    let t = held_of hs b n2 o in
    let q = held_at_number hs b n2 o v2 v3 r (longer v1 v2 m.types p.made ∙ ap (λ a. a + length m.types) l) j in
    as_stmt _ (if_stmt hs b (length v) e y o s.at) s.at v v3 x (stmt_if hs b (length v) s e y o is) (record {
      rest = xe ∙ ap (λ a. act_at a s.at) (ke ∙ ap (λ a. behind a (stmt.If c y1 r) s.at) (h.set ∙ ap (λ l. l ++ z.before) be) ∙ ap (λ a. behind z.before (stmt.If a y1 r) s.at) h.rest ∙ ap (λ a. behind z.before (stmt.If (rest_of z e) a r) s.at) p.rest ∙ ap (λ a. behind z.before (stmt.If (rest_of z e) (act_at m.kind y.at) a) s.at) q.rest);
      made = then v v1 v3 z.types (m.types ++ t.types) h.made (then v1 v2 v3 m.types t.types p.made q.made);
    })

pub for_becomes : (hs : List TypedHelper) (b : ℕ) (s : ProgStmt) (first : List ProgStmt) (e : Option ProgExpr) (o : Option ProgStmt) (y : ProgStmt) (a0 a1 b0 b1 : List TypedStmt) (v v1 v2 v3 v4 : List Ty) (c : Option TypedExpr) (r : Option TypedStmt) (y1 x : TypedStmt)
    → s.kind ≡ act.For first e o y → a0 ≡ [] → AreStmts (stmts_of hs b (length v) first) a0 v a1 v1 → IsOption (option_of hs b (length v1) e) b0 v1 b1 v2 c → IsHeld (held_of hs b (length v2) o) v2 v3 r → Becomes hs b y v3 v4 y1 → x ≡ act_at (stmt.For a1 c r y1) s.at → Becomes hs b s v v4 x
for_becomes hs b s first e o y a0 a1 b0 b1 v v1 v2 v3 v4 c r y1 x is ae h i j k xe =
    let a = stmts_of hs b (length v) first in
    let n1 = length v + length a.types in
    let z = option_of hs b n1 e in
    let n2 = n1 + length z.types in
    let t = held_of hs b n2 o in
    let n3 = n2 + length t.types in
    let m = stmt_of hs b n3 y in
    let l1 = longer v v1 a.types h.made in
    let zb = option_at_number hs b n1 e b0 v1 b1 v2 c l1 i in
    let l2 = longer v1 v2 z.types zb.made ∙ ap (λ w. w + length z.types) l1 in
    let tb = held_at_number hs b n2 o v2 v3 r l2 j in
    let l3 = longer v2 v3 t.types tb.made ∙ ap (λ w. w + length t.types) l2 in
    let mb = stmt_at_number hs b n3 y v3 v4 y1 l3 k in
    as_stmt _ (for_stmt hs b (length v) first e o y) s.at v v4 x (stmt_for hs b (length v) s first e o y is) (record {
      rest = xe ∙ ap (λ u. act_at (stmt.For u c r y1) s.at) (h.set ∙ ap (λ u. u ++ a.stmts) ae) ∙ ap (λ u. act_at (stmt.For a.stmts u r y1) s.at) zb.rest ∙ ap (λ u. act_at (stmt.For a.stmts z.expr u y1) s.at) tb.rest ∙ ap (λ u. act_at (stmt.For a.stmts z.expr t.stmt u) s.at) mb.rest;
      made = then v v1 v4 a.types (z.types ++ (t.types ++ m.types)) h.made (then v1 v2 v4 z.types (t.types ++ m.types) zb.made (then v2 v3 v4 t.types m.types tb.made mb.made));
    })
