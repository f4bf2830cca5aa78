-- What each call made joins to what the whole makes: expressions, calls and the blocks of calls.
use Rattle.std.proofs.Common.{◌≡◌, ℕ, ◌+◌, List, [], ◌∷◌, ◌++◌, length, take, sym, ◌∙◌, ap, subst, append-nil, Some, None}
use Rattle.std.specs.Prelude.{slice_get}
use Rattle.el_base.specs.declared.span.Span.{Span}
use Rattle.el_base.specs.declared.ty.Ty.{Ty}
use Rattle.c_ast.specs.declared.tree.Binary.{Binary}
use Rattle.c_ast.specs.declared.typed.TypedExpr.{TypedExpr}
use Rattle.c_ast.specs.declared.typed.TypedExprKind.TheVariants as expr
use Rattle.c_ast.specs.declared.typed.TypedStmt.{TypedStmt}
use Rattle.c_ast.specs.declared.typed.TypedStmtKind.TheVariants as stmt
use Rattle.c_ast.specs.Casts.{of_type, act_at}
use Rattle.c_ast.specs.declared.program.ProgExpr.{ProgExpr}
use Rattle.c_ast.specs.declared.program.ProgExprKind.TheVariants as prog
use Rattle.c_ast.specs.declared.program.TypedHelper.{TypedHelper}
use Rattle.c_calls.specs.Inlined.{Out, with_call, rest_of, written_by, writing}
use Rattle.c_inline.specs.Making.{writings_of, out_of, outs_of, call_of, IsOut, Makes, AreOut, IsWritten, IsCall}
use Rattle.c_inline.proofs.Parts.{element_out, two_out, three_out, out_element, out_binary, out_choice, out_call}
use Rattle.c_inline.proofs.Fits.{longer, written_is}
use Rattle.c_inline.proofs.Tables.{no_writing}
use Rattle.c_meaning.proofs.ListParts.{behind as then}

-- ---- one thing after another

as_out : (o o2 : Out) (ty : Ty) (at : Span) (b : List TypedStmt) (v : List Ty) (b2 : List TypedStmt) (v2 : List Ty) (x : TypedExpr) → o ≡ o2 → IsOut o2 ty at b v b2 v2 x → IsOut o ty at b v b2 v2 x
as_out o o2 ty at b v b2 v2 x e p = subst (λ z. IsOut z ty at b v b2 v2 x) (sym e) p

-- with its variables numbered from n on
pub at_number : (hs : List TypedHelper) (b n : ℕ) (e : ProgExpr) (b1 : List TypedStmt) (v1 : List Ty) (b2 : List TypedStmt) (v2 : List Ty) (x : TypedExpr) → length v1 ≡ n → IsOut (out_of hs b (length v1) e) e.ty e.at b1 v1 b2 v2 x → IsOut (out_of hs b n e) e.ty e.at b1 v1 b2 v2 x
at_number hs b n e b1 v1 b2 v2 x h p = subst (λ n. IsOut (out_of hs b n e) e.ty e.at b1 v1 b2 v2 x) h p

-- ---- expressions

pub element_makes : (hs : List TypedHelper) (b : ℕ) (e : ProgExpr) (a : ℕ) (es : List ProgExpr) (xs : List TypedExpr) (b1 : List TypedStmt) (v1 : List Ty) (b2 : List TypedStmt) (v2 : List Ty) (r : TypedExpr) → e.kind ≡ prog.Element a es → AreOut (outs_of hs b (length v1) es) b1 v1 b2 v2 xs → r ≡ of_type (expr.Element a xs) e.ty e.at
    → Makes hs b e b1 v1 b2 v2 r
element_makes hs b e a es xs b1 v1 b2 v2 r is h re =
    as_out _ (element_out a (outs_of hs b (length v1) es)) e.ty e.at b1 v1 b2 v2 r (out_element hs b (length v1) e a es is) (record { rest = re ∙ ap (λ z. of_type (expr.Element a z) e.ty e.at) h.rest; set = h.set; made = h.made })

pub binary_makes : (hs : List TypedHelper) (b : ℕ) (e : ProgExpr) (op : Binary) (x y : ProgExpr) (x1 y1 : TypedExpr) (b0 : List TypedStmt) (v0 : List Ty) (b1 : List TypedStmt) (v1 : List Ty) (b2 : List TypedStmt) (v2 : List Ty) (r : TypedExpr)
    → e.kind ≡ prog.Binary op x y → Makes hs b x b0 v0 b1 v1 x1 → Makes hs b y b1 v1 b2 v2 y1 → r ≡ of_type (expr.Binary op x1 y1) e.ty e.at → Makes hs b e b0 v0 b2 v2 r
binary_makes hs b e op x y x1 y1 b0 v0 b1 v1 b2 v2 r is h i re =
    let o = out_of hs b (length v0) x in
    let n = length v0 + length o.types in
    let o2 = out_of hs b n y in
    let j = at_number hs b n y b1 v1 b2 v2 y1 (longer v0 v1 o.types h.made) i in
    as_out _ (two_out hs b (length v0) op x y) e.ty e.at b0 v0 b2 v2 r (out_binary hs b (length v0) e op x y is) (record {
      rest = re ∙ ap (λ z. of_type (expr.Binary op z y1) e.ty e.at) h.rest ∙ ap (λ z. of_type (expr.Binary op (rest_of o x) z) e.ty e.at) j.rest;
      set = then b0 b1 b2 o.before o2.before h.set j.set;
      made = then v0 v1 v2 o.types o2.types h.made j.made;
    })

pub choice_makes : (hs : List TypedHelper) (b : ℕ) (e x y z : ProgExpr) (x1 y1 z1 : TypedExpr) (b0 : List TypedStmt) (v0 : List Ty) (b1 : List TypedStmt) (v1 : List Ty) (b2 : List TypedStmt) (v2 : List Ty) (b3 : List TypedStmt) (v3 : List Ty) (r : TypedExpr)
    → e.kind ≡ prog.Choose x y z → Makes hs b x b0 v0 b1 v1 x1 → Makes hs b y b1 v1 b2 v2 y1 → Makes hs b z b2 v2 b3 v3 z1 → r ≡ of_type (expr.Choose x1 y1 z1) e.ty e.at → Makes hs b e b0 v0 b3 v3 r
choice_makes hs b e x y z x1 y1 z1 b0 v0 b1 v1 b2 v2 b3 v3 r is h i k re =
    let o = out_of hs b (length v0) x in
    let n = length v0 + length o.types in
    let o2 = out_of hs b n y in
    let m = n + length o2.types in
    let o3 = out_of hs b m z in
    let l = longer v0 v1 o.types h.made in
    let j = at_number hs b n y b1 v1 b2 v2 y1 l i in
    let q = at_number hs b m z b2 v2 b3 v3 z1 (longer v1 v2 o2.types j.made ∙ ap (λ a. a + length o2.types) l) k in
    as_out _ (three_out hs b (length v0) x y z) e.ty e.at b0 v0 b3 v3 r (out_choice hs b (length v0) e x y z is) (record {
      rest = re ∙ ap (λ a. of_type (expr.Choose a y1 z1) e.ty e.at) h.rest ∙ ap (λ a. of_type (expr.Choose (rest_of o x) a z1) e.ty e.at) j.rest ∙ ap (λ a. of_type (expr.Choose (rest_of o x) (rest_of o2 y) a) e.ty e.at) q.rest;
      set = then b0 b1 b3 o.before (o2.before ++ o3.before) h.set (then b1 b2 b3 o2.before o3.before j.set q.set);
      made = then v0 v1 v3 o.types (o2.types ++ o3.types) h.made (then v1 v2 v3 o2.types o3.types j.made q.made);
    })

pub call_makes : (hs : List TypedHelper) (b : ℕ) (e : ProgExpr) (h : ℕ) (es : List ProgExpr) (s : Span) (w : ℕ) (b1 : List TypedStmt) (v1 : List Ty) (b2 : List TypedStmt) (v2 : List Ty) (r : TypedExpr)
    → e.kind ≡ prog.Call h es → s ≡ e.at → IsCall (outs_of hs b (length v1) es) (call_of hs b (length v1) h es s) b1 v1 b2 v2 w → r ≡ of_type (expr.Var w) e.ty e.at → Makes hs b e b1 v1 b2 v2 r
call_makes hs b e h es s w b1 v1 b2 v2 r is at p re =
    let o = outs_of hs b (length v1) es in
    let q = subst (λ a. IsCall o (call_of hs b (length v1) h es a) b1 v1 b2 v2 w) at p in
    as_out _ (with_call o (call_of hs b (length v1) h es e.at)) e.ty e.at b1 v1 b2 v2 r (out_call hs b (length v1) e h es is) (record { rest = re ∙ ap (λ n. of_type (expr.Var n) e.ty e.at) q.rest; set = q.set; made = q.made })

-- ---- calls

-- of a helper that there is not
pub none_called : (hs : List TypedHelper) (n : ℕ) (h : ℕ) (es : List ProgExpr) (xs : List TypedExpr) (s : Span) (x : TypedStmt) (w : ℕ) (b : List TypedStmt) (v : List Ty) (b1 : List TypedStmt) (v1 : List Ty) (b2 : List TypedStmt)
    → slice_get hs h ≡ None → AreOut (outs_of hs n (length v) es) b v b1 v1 xs → w ≡ length v1 → x ≡ act_at stmt.Empty s → b2 ≡ b1 ++ x ∷ [] → IsCall (outs_of hs n (length v) es) (call_of hs n (length v) h es s) b v b2 v1 w
none_called hs n h es xs s x w b v b1 v1 b2 is a we xe be =
    let o = outs_of hs n (length v) es in
    let f = length v + length o.types in
    let none : call_of hs n (length v) h es s ≡ record { block = act_at stmt.Empty s; fresh = f; types = [] } = ap (λ z. written_by z f o.exprs s) (no_writing hs h is) in
    subst (λ z. IsCall o z b v b2 v1 w) (sym none) (record {
      rest = we ∙ longer v v1 o.types a.made;
      set = then b b1 b2 o.before (act_at stmt.Empty s ∷ []) a.set (be ∙ ap (λ z. b1 ++ z ∷ []) xe);
      made = a.made ∙ ap (λ z. v ++ z) (sym (append-nil o.types));
    })

pub some_called : (hs below : List TypedHelper) (n : ℕ) (h : ℕ) (g : TypedHelper) (es : List ProgExpr) (xs ys : List TypedExpr) (s : Span) (w : ℕ) (b : List TypedStmt) (v : List Ty) (b1 : List TypedStmt) (v1 : List Ty) (b2 : List TypedStmt) (v2 : List Ty)
    → slice_get hs h ≡ Some g → below ≡ take h hs → AreOut (outs_of hs n (length v) es) b v b1 v1 xs → ys ≡ xs → IsWritten (writing (writings_of below) g (length v1) ys s) b1 v1 b2 v2 w → IsCall (outs_of hs n (length v) es) (call_of hs n (length v) h es s) b v b2 v2 w
some_called hs below n h g es xs ys s w b v b1 v1 b2 v2 is low a eq p =
    let o = outs_of hs n (length v) es in
    let f = length v + length o.types in
    let c = call_of hs n (length v) h es s in
    let same : writing (writings_of below) g (length v1) ys s ≡ c =
    ap (λ l. writing (writings_of l) g (length v1) ys s) low ∙ ap (λ m. writing (writings_of (take h hs)) g m ys s) (longer v v1 o.types a.made) ∙ ap (λ l. writing (writings_of (take h hs)) g f l s) (eq ∙ a.rest) ∙ sym (written_is hs h g f o.exprs s is) in
    let q = subst (λ z. IsWritten z b1 v1 b2 v2 w) same p in
    record { rest = q.rest; set = then b b1 b2 o.before (c.block ∷ []) a.set q.set; made = then v v1 v2 o.types c.types a.made q.made }
