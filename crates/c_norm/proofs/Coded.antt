-- Expansions by their parts and call by call: what each call made joins to what the whole makes.
use Rattle.std.proofs.Common.{◌≡◌, ℕ, ◌+◌, ◌≤◌, List, [], ◌∷◌, ◌++◌, length, refl, sym, ◌∙◌, ap, arith, ◌<◌, get_or, drop, subst, append_assoc, append-nil, length-append}
use Rattle.std.specs.Prelude.{Bool, true, false, ◌==◌, Option, Some, None, sum_by, ◌&&◌}
use Rattle.std.proofs.lemmas.Bool.{ne_eqb, eqb-true}
use Rattle.el_base.specs.declared.span.Span.{Span}
use Rattle.el_base.specs.declared.ty.Ty.{Ty}
use denote.Hole.Carrier.{hidden}
use Rattle.c_ast.specs.declared.tree.Unary.{Unary}
use Rattle.c_ast.specs.declared.tree.Binary.{Binary}
use Rattle.c_ast.specs.declared.typed.TypedExpr.{TypedExpr}
use Rattle.c_ast.specs.declared.typed.TypedExprKind.TheVariants as expr
use Rattle.c_ast.specs.declared.typed.TypedExprKind.TheBlock.{shape-the_row-TypedExpr-0, hidden-the_row-TypedExpr-0, shape-the_row-TypedExpr-1, hidden-the_row-TypedExpr-1}
use Rattle.c_ast.specs.declared.typed.TypedExprKind.{TypedExprKind, end_of-TypedExpr, more_of-TypedExpr}
use Rattle.c_ast.specs.declared.typed.TypedExprKind as tree
use Rattle.c_ast.specs.Casts.{of_type}
use Rattle.c_ast.specs.Nodes.{typed_kind_nodes, typed_expr_nodes, typed_exprs_nodes}
use Rattle.c_ast.proofs.TypedNodeEquations.{typed_element, typed_unary, typed_implied, typed_written, typed_binary, typed_choice}
use Rattle.c_meaning.specs.Sizes.{reads}
use Rattle.c_norm.specs.Expand.{Out, Outs, whole, decided_by, joined_out, binary_out, choose_out, expand, expand_row, expand_expr, expand_all, setting, side, choice, logical, logical_out, rest_of, set_all}
use Rattle.std.proofs.lemmas.List.{drop_all}
use Rattle.std.proofs.lemmas.List.Sums.{sum_by-drop_more}
use Rattle.el_base.specs.declared.ty.Ty.TheVariants.{I32}
use Rattle.c_ast.specs.declared.normal.NormalStmt.{NormalStmt}
use Rattle.c_meaning.proofs.ListParts.{longer, behind, from_place}
use Rattle.c_norm.specs.Code.{HasRoom, IsOut, AreOut, IsExpanded, GoesOn, set_out}
use Rattle.c_norm.specs.declared.expand.Rest.{Rest}
use Rattle.c_norm.proofs.SizedExprs.{sized, all_sized, set_sized}

-- ---- nodes

pub nodes_element : (e : TypedExpr) (a : ℕ) (es : List TypedExpr) → e.kind ≡ expr.Element a es → typed_expr_nodes e ≡ 1 + typed_exprs_nodes es
nodes_element e a es is = ap typed_kind_nodes is ∙ typed_element a es

pub nodes_unary : (e : TypedExpr) (op : Unary) (x : TypedExpr) → e.kind ≡ expr.Unary op x → typed_expr_nodes e ≡ 1 + typed_expr_nodes x
nodes_unary e op x is = ap typed_kind_nodes is ∙ typed_unary op x

cast_count : (implied : Bool) (x : TypedExpr) → typed_expr_nodes x ≤ typed_kind_nodes (expr.Cast implied x)
cast_count true x = omega (arith, typed_implied x)
cast_count false x = omega (arith, typed_written x)

-- a cast that is implied is no node
pub nodes_cast : (e : TypedExpr) (implied : Bool) (x : TypedExpr) → e.kind ≡ expr.Cast implied x → typed_expr_nodes x ≤ typed_expr_nodes e
nodes_cast e implied x is = omega (arith, ap typed_kind_nodes is, cast_count implied x)

pub nodes_binary : (e : TypedExpr) (op : Binary) (x y : TypedExpr) → e.kind ≡ expr.Binary op x y → typed_expr_nodes e ≡ 1 + typed_expr_nodes x + typed_expr_nodes y
nodes_binary e op x y is = ap typed_kind_nodes is ∙ typed_binary op x y

pub nodes_choice : (e : TypedExpr) (x y z : TypedExpr) → e.kind ≡ expr.Choose x y z → typed_expr_nodes e ≡ 1 + typed_expr_nodes x + typed_expr_nodes y + typed_expr_nodes z
nodes_choice e x y z is = ap typed_kind_nodes is ∙ typed_choice x y z

-- ---- what reads no array

reads_by : (e : TypedExpr) (k : TypedExprKind) (n : ℕ) → e.kind ≡ k → reads k ≡ n → (reads e.kind == 0) ≡ (n == 0)
reads_by e k n is h = ap (λ x. reads x == 0) is ∙ ap (λ x. x == 0) h

pub reads_element : (e : TypedExpr) (a : ℕ) (es : List TypedExpr) → e.kind ≡ expr.Element a es → false ≡ (reads e.kind == 0)
unfolding shape-the_row-TypedExpr-0 hidden-the_row-TypedExpr-0 shape-the_row-TypedExpr-1 hidden-the_row-TypedExpr-1 hidden
reads_element e a es is = sym (ne_eqb (reads e.kind) 0 (λ z. omega (arith, z, ap reads is)))

pub reads_binary : (e : TypedExpr) (op : Binary) (x y : TypedExpr) → e.kind ≡ expr.Binary op x y → (reads x.kind + reads y.kind == 0) ≡ (reads e.kind == 0)
unfolding shape-the_row-TypedExpr-0 hidden-the_row-TypedExpr-0 shape-the_row-TypedExpr-1 hidden-the_row-TypedExpr-1 hidden
reads_binary e op x y is = sym (reads_by e (expr.Binary op x y) (reads x.kind + reads y.kind) is refl)

pub reads_choice : (e : TypedExpr) (x y z : TypedExpr) → e.kind ≡ expr.Choose x y z → (reads x.kind + reads y.kind + reads z.kind == 0) ≡ (reads e.kind == 0)
unfolding shape-the_row-TypedExpr-0 hidden-the_row-TypedExpr-0 shape-the_row-TypedExpr-1 hidden-the_row-TypedExpr-1 hidden
reads_choice e x y z is = sym (reads_by e (expr.Choose x y z) (reads x.kind + reads y.kind + reads z.kind) is refl)

-- ---- expansions

abbrev pub element_out : ℕ → Outs → Out
element_out a o = record { before = o.before; kind = expr.Element a o.exprs; types = o.types }

abbrev pub unary_out : Unary → Ty → Span → Out → Out
unary_out op t at o = record { before = o.before; kind = expr.Unary op (of_type o.kind t at); types = o.types }

abbrev pub cast_out : Bool → Ty → Span → Out → Out
cast_out implied t at o = record { before = o.before; kind = expr.Cast implied (of_type o.kind t at); types = o.types }

row_all : (f : ℕ) (es : List TypedExpr) → expand_row f (hidden-the_row-TypedExpr-0 es) ≡ expand_all f es
unfolding shape-the_row-TypedExpr-0 hidden-the_row-TypedExpr-0 shape-the_row-TypedExpr-1 hidden-the_row-TypedExpr-1 hidden
row_all f [] = refl
row_all f (e ∷ es) =
    let o = expand_expr f e in
    ap (λ r. record { before = o.before ++ r.before; exprs = of_type o.kind e.ty e.at ∷ r.exprs; types = o.types ++ r.types }) (row_all (f + length o.types) es)

pub expand_element : (f : ℕ) (e : TypedExpr) (a : ℕ) (es : List TypedExpr) → e.kind ≡ expr.Element a es → expand_expr f e ≡ element_out a (expand_all f es)
unfolding shape-the_row-TypedExpr-0 hidden-the_row-TypedExpr-0 shape-the_row-TypedExpr-1 hidden-the_row-TypedExpr-1 hidden
expand_element f e a es is = ap (λ k. expand f k e.ty e.at) is ∙ ap (element_out a) (row_all f es)

abbrev pub two_out : ℕ → Binary → TypedExpr → TypedExpr → Span → Out
two_out f op x y s =
    let o = expand_expr f x in
    let g = f + length o.types in
    let o2 = expand_expr g y in
    binary_out (decided_by op) (reads x.kind + reads y.kind == 0) (expr.Binary op x y) op (g + length o2.types) o x.ty x.at o2 y.ty y.at s

pub expand_binary : (f : ℕ) (e : TypedExpr) (op : Binary) (x y : TypedExpr) → e.kind ≡ expr.Binary op x y → expand_expr f e ≡ two_out f op x y e.at
unfolding shape-the_row-TypedExpr-0 hidden-the_row-TypedExpr-0 shape-the_row-TypedExpr-1 hidden-the_row-TypedExpr-1 hidden
expand_binary f e op x y is = ap (λ k. expand f k e.ty e.at) is

abbrev pub three_out : ℕ → TypedExpr → TypedExpr → TypedExpr → Ty → Span → Out
three_out f x y z ty s =
    let o = expand_expr f x in
    let g = f + length o.types in
    let o2 = expand_expr g y in
    let h = g + length o2.types in
    let o3 = expand_expr h z in
    choose_out (reads y.kind + reads z.kind == 0) y z (h + length o3.types) o x.ty x.at o2 y.ty y.at o3 z.ty z.at ty s

pub expand_choice : (f : ℕ) (e x y z : TypedExpr) → e.kind ≡ expr.Choose x y z → expand_expr f e ≡ three_out f x y z e.ty e.at
unfolding shape-the_row-TypedExpr-0 hidden-the_row-TypedExpr-0 shape-the_row-TypedExpr-1 hidden-the_row-TypedExpr-1 hidden
expand_choice f e x y z is = ap (λ k. expand f k e.ty e.at) is

-- ---- what reads no array stays whole

zero_test : (n : ℕ) → n ≡ 0 → (n == 0) ≡ true
zero_test n h = ap (λ i. i == 0) h

plain_two : (d : Option Bool) (plain : Bool) (kind : TypedExprKind) (op : Binary) (v : ℕ) (o o2 : Out) (t t2 : Ty) (at at2 s : Span) → plain ≡ true → joined_out op o t at o2 t2 at2 ≡ whole kind → binary_out d plain kind op v o t at o2 t2 at2 s ≡ whole kind
plain_two None plain kind op v o o2 t t2 at at2 s h e = e
plain_two (Some d) true kind op v o o2 t t2 at at2 s h e = refl
plain_two (Some d) false kind op v o o2 t t2 at at2 s h e = absurd (cc)

plain_three : (plain : Bool) (x y : TypedExpr) (kind : TypedExprKind) (v : ℕ) (o o2 o3 : Out) (t t2 t3 ty : Ty) (at at2 at3 s : Span) → plain ≡ true → record { before = o.before; kind = expr.Choose (of_type o.kind t at) x y; types = o.types } ≡ whole kind
    → choose_out plain x y v o t at o2 t2 at2 o3 t3 at3 ty s ≡ whole kind
plain_three true x y kind v o o2 o3 t t2 t3 ty at at2 at3 s h e = e
plain_three false x y kind v o o2 o3 t t2 t3 ty at at2 at3 s h e = absurd (cc)

plain_kind : (f : ℕ) (e : TypedExprKind) (ty : Ty) (s : Span) → reads e ≡ 0 → expand f e ty s ≡ whole e
unfolding shape-the_row-TypedExpr-0 hidden-the_row-TypedExpr-0 shape-the_row-TypedExpr-1 hidden-the_row-TypedExpr-1 hidden
plain_kind f (tree.Number n) ty s h = refl
plain_kind f (tree.Var v) ty s h = refl
plain_kind f (tree.Element' a n row) ty s h = absurd (omega (arith, h))
plain_kind f (tree.Unary' op b (more_of-TypedExpr e t at end_of-TypedExpr)) ty s h = ap (unary_out op t at) (plain_kind f e t at h)
plain_kind f (tree.Cast' implied b (more_of-TypedExpr e t at end_of-TypedExpr)) ty s h = ap (cast_out implied t at) (plain_kind f e t at h)
plain_kind f (tree.Binary' op b (more_of-TypedExpr e t at end_of-TypedExpr) b2 (more_of-TypedExpr e2 t2 at2 end_of-TypedExpr)) ty s h =
    let o = expand f e t at in
    let g = f + length o.types in
    let o2 = expand g e2 t2 at2 in
    plain_two (decided_by op) (reads e + reads e2 == 0) (tree.Binary' op b (more_of-TypedExpr e t at end_of-TypedExpr) b2 (more_of-TypedExpr e2 t2 at2 end_of-TypedExpr)) op (g + length o2.types) o o2 t t2 at at2 s (zero_test (reads e + reads e2) h)
    (ap (λ x. joined_out op x t at o2 t2 at2) (plain_kind f e t at (omega (arith, h))) ∙ ap (λ x. joined_out op (whole e) t at x t2 at2) (plain_kind g e2 t2 at2 (omega (arith, h))))
plain_kind f (tree.Choose' b (more_of-TypedExpr e t at end_of-TypedExpr) b2 (more_of-TypedExpr e2 t2 at2 end_of-TypedExpr) b3 (more_of-TypedExpr e3 t3 at3 end_of-TypedExpr)) ty s h =
    let o = expand f e t at in
    let g = f + length o.types in
    let o2 = expand g e2 t2 at2 in
    let i = g + length o2.types in
    let o3 = expand i e3 t3 at3 in
    plain_three (reads e2 + reads e3 == 0) (of_type e2 t2 at2) (of_type e3 t3 at3) (tree.Choose' b (more_of-TypedExpr e t at end_of-TypedExpr) b2 (more_of-TypedExpr e2 t2 at2 end_of-TypedExpr) b3 (more_of-TypedExpr e3 t3 at3 end_of-TypedExpr)) (i + length o3.types) o o2 o3 t t2 t3 ty at at2 at3 s
    (zero_test (reads e2 + reads e3) (omega (arith, h)))
    (ap (λ (x : Out). record { before = x.before; kind = expr.Choose (of_type x.kind t at) (of_type e2 t2 at2) (of_type e3 t3 at3); types = x.types }) (plain_kind f e t at (omega (arith, h))))

pub plain_whole : (f : ℕ) (e : TypedExpr) → reads e.kind ≡ 0 → expand_expr f e ≡ whole e.kind
plain_whole f e h = plain_kind f e.kind e.ty e.at h

-- ---- few variables are made

pub few_made : (f : ℕ) (e : TypedExpr) → length (expand_expr f e).types + 1 ≤ typed_expr_nodes e
few_made f e = let h = (sized e.kind e.ty e.at f).types in omega arith

pub few_exprs : (f : ℕ) (es : List TypedExpr) → length (expand_all f es).types ≤ typed_exprs_nodes es
few_exprs f es = let h = (all_sized es f).types in omega arith

pub few_set : (f : ℕ) (es : List TypedExpr) → length (set_all f es).types ≤ typed_exprs_nodes es
few_set f es = let h = (set_sized es f).blocks in omega arith

pub few_expanded : (e : TypedExpr) (b : List NormalStmt) (v : List Ty) (b2 : List NormalStmt) (v2 : List Ty) (x : TypedExpr) (p : Bool) → IsExpanded e b v b2 v2 x p → length v2 + 1 ≤ length v + typed_expr_nodes e
few_expanded e b v b2 v2 x p h = omega (arith, longer v v2 (expand_expr (length v) e).types h.out.made, few_made (length v) e)

pub few_expanded_all : (es : List TypedExpr) (b : List NormalStmt) (v : List Ty) (b2 : List NormalStmt) (v2 : List Ty) (xs : List TypedExpr) → AreOut (expand_all (length v) es) b v b2 v2 xs → length v2 ≤ length v + typed_exprs_nodes es
few_expanded_all es b v b2 v2 xs h = omega (arith, longer v v2 (expand_all (length v) es).types h.made, few_exprs (length v) es)

pub few_set_all : (es : List TypedExpr) (b : List NormalStmt) (v : List Ty) (b2 : List NormalStmt) (v2 : List Ty) (xs : List TypedExpr) → AreOut (set_all (length v) es) b v b2 v2 xs → length v2 ≤ length v + typed_exprs_nodes es
few_set_all es b v b2 v2 xs h = omega (arith, longer v v2 (set_all (length v) es).types h.made, few_set (length v) es)

-- ---- one thing after another

as_out : (o o2 : Out) (ty : Ty) (at : Span) (b : List NormalStmt) (v : List Ty) (b2 : List NormalStmt) (v2 : List Ty) (x : TypedExpr) → o ≡ o2 → IsOut o2 ty at b v b2 v2 x → IsOut o ty at b v b2 v2 x
as_out o o2 ty at b v b2 v2 x e p = subst (λ z. IsOut z ty at b v b2 v2 x) (sym e) p

-- the second of two, with its variables numbered behind those of the first
pub second_out : (o : Out) (e : TypedExpr) (b : List NormalStmt) (v v1 : List Ty) (b2 : List NormalStmt) (v2 : List Ty) (x : TypedExpr) → v1 ≡ v ++ o.types → IsOut (expand_expr (length v1) e) e.ty e.at b v1 b2 v2 x → IsOut (expand_expr (length v + length o.types) e) e.ty e.at b v1 b2 v2 x
second_out o e b v v1 b2 v2 x h p = subst (λ n. IsOut (expand_expr n e) e.ty e.at b v1 b2 v2 x) (longer v v1 o.types h) p

-- what is left of an expression, by its kind
pub left_is : (e : TypedExpr) (k k2 : TypedExprKind) (p : Bool) (b : List NormalStmt) (v : List Ty) (b2 : List NormalStmt) (v2 : List Ty) (r : Rest) → r ≡ record { expr = of_type k e.ty e.at; plain = p } → k ≡ k2 → IsExpanded e b v b2 v2 (of_type k2 e.ty e.at) p → IsExpanded e b v b2 v2 r.expr r.plain
left_is e k k2 p b v b2 v2 r h g i = subst (λ (q : Rest). IsExpanded e b v b2 v2 q.expr q.plain) (sym (h ∙ ap (λ z. record { expr = of_type z e.ty e.at; plain = p }) g)) i

-- ---- no operand

pub whole_arm : (e : TypedExpr) (k : TypedExprKind) (b : List NormalStmt) (v : List Ty) → e.kind ≡ k → expand (length v) k e.ty e.at ≡ whole k → reads k ≡ 0 → IsExpanded e b v b v (of_type k e.ty e.at) true
whole_arm e k b v is w n = record {
  out = as_out (expand_expr (length v) e) (whole k) e.ty e.at b v b v (of_type k e.ty e.at) (ap (λ k. expand (length v) k e.ty e.at) is ∙ w) (record { rest = refl; set = sym (append-nil b); made = sym (append-nil v) });
  plain = sym (ap (λ k. reads k == 0) is ∙ ap (λ i. i == 0) n);
}

-- ---- one operand

pub element_arm : (e : TypedExpr) (a : ℕ) (es xs : List TypedExpr) (b : List NormalStmt) (v : List Ty) (b2 : List NormalStmt) (v2 : List Ty) → e.kind ≡ expr.Element a es → AreOut (expand_all (length v) es) b v b2 v2 xs → IsExpanded e b v b2 v2 (of_type (expr.Element a xs) e.ty e.at) false
element_arm e a es xs b v b2 v2 is h = record {
  out = as_out (expand_expr (length v) e) (element_out a (expand_all (length v) es)) e.ty e.at b v b2 v2 (of_type (expr.Element a xs) e.ty e.at) (expand_element (length v) e a es is) (record {
    rest = ap (λ z. of_type (expr.Element a z) e.ty e.at) h.rest;
    set = h.set;
    made = h.made;
  });
  plain = reads_element e a es is;
}

pub unary_arm : (e : TypedExpr) (op : Unary) (x y : TypedExpr) (q : Bool) (b : List NormalStmt) (v : List Ty) (b2 : List NormalStmt) (v2 : List Ty) → e.kind ≡ expr.Unary op x → IsExpanded x b v b2 v2 y q → IsExpanded e b v b2 v2 (of_type (expr.Unary op y) e.ty e.at) q
unfolding shape-the_row-TypedExpr-0 hidden-the_row-TypedExpr-0 shape-the_row-TypedExpr-1 hidden-the_row-TypedExpr-1 hidden
unary_arm e op x y q b v b2 v2 is h = record {
  out = as_out (expand_expr (length v) e) (unary_out op x.ty x.at (expand_expr (length v) x)) e.ty e.at b v b2 v2 (of_type (expr.Unary op y) e.ty e.at) (ap (λ k. expand (length v) k e.ty e.at) is) (record {
    rest = ap (λ z. of_type (expr.Unary op z) e.ty e.at) h.out.rest;
    set = h.out.set;
    made = h.out.made;
  });
  plain = h.plain ∙ sym (ap (λ k. reads k == 0) is);
}

pub cast_arm : (e : TypedExpr) (implied : Bool) (x y : TypedExpr) (q : Bool) (b : List NormalStmt) (v : List Ty) (b2 : List NormalStmt) (v2 : List Ty) → e.kind ≡ expr.Cast implied x → IsExpanded x b v b2 v2 y q → IsExpanded e b v b2 v2 (of_type (expr.Cast implied y) e.ty e.at) q
unfolding shape-the_row-TypedExpr-0 hidden-the_row-TypedExpr-0 shape-the_row-TypedExpr-1 hidden-the_row-TypedExpr-1 hidden
cast_arm e implied x y q b v b2 v2 is h = record {
  out = as_out (expand_expr (length v) e) (cast_out implied x.ty x.at (expand_expr (length v) x)) e.ty e.at b v b2 v2 (of_type (expr.Cast implied y) e.ty e.at) (ap (λ k. expand (length v) k e.ty e.at) is) (record {
    rest = ap (λ z. of_type (expr.Cast implied z) e.ty e.at) h.out.rest;
    set = h.out.set;
    made = h.out.made;
  });
  plain = h.plain ∙ sym (ap (λ k. reads k == 0) is);
}

-- ---- two operands

and_zero : (m n : ℕ) → ((m == 0) && (n == 0)) ≡ (m + n == 0)
and_zero m n = grind (arith, ne_eqb)

both_zero : (p q : Bool) (m n : ℕ) → p ≡ (m == 0) → q ≡ (n == 0) → (p && q) ≡ (m + n == 0)
both_zero p q m n a b = ap (λ i. i && q) a ∙ ap (λ i. (m == 0) && i) b ∙ and_zero m n

out_none : (d : Option Bool) (plain : Bool) (kind : TypedExprKind) (op : Binary) (v : ℕ) (o o2 : Out) (t t2 : Ty) (at at2 s : Span) → d ≡ None → binary_out d plain kind op v o t at o2 t2 at2 s ≡ joined_out op o t at o2 t2 at2
out_none d plain kind op v o o2 t t2 at at2 s e = ap (λ i. binary_out i plain kind op v o t at o2 t2 at2 s) e

out_some : (d : Option Bool) (c : Bool) (plain : Bool) (kind : TypedExprKind) (op : Binary) (v : ℕ) (o o2 : Out) (t t2 : Ty) (at at2 s : Span) → d ≡ Some c → plain ≡ false → binary_out d plain kind op v o t at o2 t2 at2 s ≡ logical_out c v o t at o2 t2 at2 s
out_some d c plain kind op v o o2 t t2 at at2 s e h = ap (λ i. binary_out i plain kind op v o t at o2 t2 at2 s) e ∙ ap (λ i. binary_out (Some c) i kind op v o t at o2 t2 at2 s) h

pub joined_arm : (e : TypedExpr) (op : Binary) (x y x1 y1 : TypedExpr) (p1 p2 q : Bool) (b0 : List NormalStmt) (v0 : List Ty) (b1 : List NormalStmt) (v1 : List Ty) (b2 : List NormalStmt) (v2 : List Ty)
    → e.kind ≡ expr.Binary op x y → decided_by op ≡ None → IsExpanded x b0 v0 b1 v1 x1 p1 → IsExpanded y b1 v1 b2 v2 y1 p2 → q ≡ (p1 && p2) → IsExpanded e b0 v0 b2 v2 (of_type (expr.Binary op x1 y1) e.ty e.at) q
joined_arm e op x y x1 y1 p1 p2 q b0 v0 b1 v1 b2 v2 is none h i qe =
    let f = length v0 in
    let o = expand_expr f x in
    let g = f + length o.types in
    let o2 = expand_expr g y in
    let j = second_out o y b1 v0 v1 b2 v2 y1 h.out.made i.out in
    let e1 = expand_binary f e op x y is ∙ out_none (decided_by op) (reads x.kind + reads y.kind == 0) (expr.Binary op x y) op (g + length o2.types) o o2 x.ty y.ty x.at y.at e.at none in
    record {
      out = as_out (expand_expr f e) (joined_out op o x.ty x.at o2 y.ty y.at) e.ty e.at b0 v0 b2 v2 (of_type (expr.Binary op x1 y1) e.ty e.at) e1 (record {
        rest = ap (λ z. of_type (expr.Binary op z y1) e.ty e.at) h.out.rest ∙ ap (λ z. of_type (expr.Binary op (of_type o.kind x.ty x.at) z) e.ty e.at) j.rest;
        set = behind b0 b1 b2 o.before o2.before h.out.set j.set;
        made = behind v0 v1 v2 o.types o2.types h.out.made j.made;
      });
      plain = qe ∙ both_zero p1 p2 (reads x.kind) (reads y.kind) h.plain i.plain ∙ reads_binary e op x y is;
    }

-- what is left of an expression that reads no array
pub plain_out : (e : TypedExpr) (f : ℕ) (b : List NormalStmt) (v : List Ty) (b2 : List NormalStmt) (v2 : List Ty) (x : TypedExpr) → reads e.kind ≡ 0 → IsOut (expand_expr f e) e.ty e.at b v b2 v2 x → IsOut (whole e.kind) e.ty e.at b v b2 v2 x
plain_out e f b v b2 v2 x h p = subst (λ z. IsOut z e.ty e.at b v b2 v2 x) (plain_whole f e h) p

pub plain_arm : (e : TypedExpr) (op : Binary) (x y x1 y1 : TypedExpr) (p1 p2 : Bool) (b0 : List NormalStmt) (v0 : List Ty) (b1 : List NormalStmt) (v1 : List Ty) (i0 i1 : List NormalStmt) (v2 : List Ty)
    → e.kind ≡ expr.Binary op x y → IsExpanded x b0 v0 b1 v1 x1 p1 → IsExpanded y i0 v1 i1 v2 y1 p2 → (p1 && p2) ≡ true → IsExpanded e b0 v0 b1 v2 (of_type (expr.Binary op x1 y1) e.ty e.at) true
plain_arm e op x y x1 y1 p1 p2 b0 v0 b1 v1 i0 i1 v2 is h i qt =
    let f = length v0 in
    let sum = eqb-true (reads x.kind + reads y.kind) 0 (sym (both_zero p1 p2 (reads x.kind) (reads y.kind) h.plain i.plain) ∙ qt) in
    let none : reads e.kind ≡ 0 = eqb-true (reads e.kind) 0 (sym (reads_binary e op x y is) ∙ ap (λ n. n == 0) sum) in
    let m = plain_out x f b0 v0 b1 v1 x1 (omega (arith, sum)) h.out in
    let n = plain_out y (length v1) i0 v1 i1 v2 y1 (omega (arith, sum)) i.out in
    record {
      out = as_out (expand_expr f e) (whole e.kind) e.ty e.at b0 v0 b1 v2 (of_type (expr.Binary op x1 y1) e.ty e.at) (plain_whole f e none) (record {
        rest = ap (λ z. of_type (expr.Binary op z y1) e.ty e.at) m.rest ∙ ap (λ z. of_type (expr.Binary op x z) e.ty e.at) n.rest ∙ ap (λ k. of_type k e.ty e.at) (sym is);
        set = m.set;
        made = behind v0 v1 v2 [] [] m.made n.made;
      });
      plain = sym (ap (λ n. n == 0) none);
    }

pub logical_arm : (e : TypedExpr) (op : Binary) (d : Bool) (x y x1 y1 : TypedExpr) (p1 p2 : Bool) (b0 : List NormalStmt) (v0 : List Ty) (b1 : List NormalStmt) (v1 : List Ty) (i0 i1 : List NormalStmt) (v2 v3 : List Ty) (b2 : List NormalStmt) (w : ℕ) (s : NormalStmt) (t : Ty)
    → e.kind ≡ expr.Binary op x y → decided_by op ≡ Some d → IsExpanded x b0 v0 b1 v1 x1 p1 → i0 ≡ [] → IsExpanded y i0 v1 i1 v2 y1 p2 → (p1 && p2) ≡ false → w ≡ length v2 → v3 ≡ v2 ++ t ∷ [] → t ≡ I32 → s ≡ logical d w x1 i1 y1 e.at → b2 ≡ b1 ++ s ∷ [] → IsExpanded e b0 v0 b2 v3 (of_type (expr.Var w) e.ty e.at) false
logical_arm e op d x y x1 y1 p1 p2 b0 v0 b1 v1 i0 i1 v2 v3 b2 w s t is some h ie i qf we ve te se be =
    let f = length v0 in
    let o = expand_expr f x in
    let g = f + length o.types in
    let o2 = expand_expr g y in
    let u = g + length o2.types in
    let j = second_out o y i0 v0 v1 i1 v2 y1 h.out.made i.out in
    let test : (reads x.kind + reads y.kind == 0) ≡ false = sym (both_zero p1 p2 (reads x.kind) (reads y.kind) h.plain i.plain) ∙ qf in
    let e1 = expand_binary f e op x y is ∙ out_some (decided_by op) d (reads x.kind + reads y.kind == 0) (expr.Binary op x y) op u o o2 x.ty y.ty x.at y.at e.at some test in
    let number : w ≡ u = omega (arith, we, longer v1 v2 o2.types j.made, longer v0 v1 o.types h.out.made) in
    let inside : i1 ≡ o2.before = j.set ∙ ap (λ l. l ++ o2.before) ie in
    let stmt : s ≡ logical d u (of_type o.kind x.ty x.at) o2.before (of_type o2.kind y.ty y.at) e.at = se ∙ (λ q. logical d (number q) (h.out.rest q) (inside q) (j.rest q) e.at) in
    record {
      out = as_out (expand_expr f e) (logical_out d u o x.ty x.at o2 y.ty y.at e.at) e.ty e.at b0 v0 b2 v3 (of_type (expr.Var w) e.ty e.at) e1 (record {
        rest = ap (λ n. of_type (expr.Var n) e.ty e.at) number;
        set = behind b0 b1 b2 o.before (logical d u (of_type o.kind x.ty x.at) o2.before (of_type o2.kind y.ty y.at) e.at ∷ []) h.out.set (be ∙ ap (λ z. b1 ++ z ∷ []) stmt);
        made = behind v0 v1 v3 o.types (o2.types ++ I32 ∷ []) h.out.made (behind v1 v2 v3 o2.types (I32 ∷ []) j.made (ve ∙ ap (λ u. v2 ++ u ∷ []) te));
      });
      plain = sym test ∙ reads_binary e op x y is;
    }

-- ---- a condition and two sides

out_true : (plain : Bool) (x y : TypedExpr) (v : ℕ) (o o2 o3 : Out) (t t2 t3 ty : Ty) (at at2 at3 s : Span) → plain ≡ true → choose_out plain x y v o t at o2 t2 at2 o3 t3 at3 ty s ≡ record { before = o.before; kind = expr.Choose (of_type o.kind t at) x y; types = o.types }
out_true plain x y v o o2 o3 t t2 t3 ty at at2 at3 s h = ap (λ i. choose_out i x y v o t at o2 t2 at2 o3 t3 at3 ty s) h

out_false : (plain : Bool) (x y : TypedExpr) (v : ℕ) (o o2 o3 : Out) (t t2 t3 ty : Ty) (at at2 at3 s : Span) → plain ≡ false → choose_out plain x y v o t at o2 t2 at2 o3 t3 at3 ty s ≡ choose_out false x y v o t at o2 t2 at2 o3 t3 at3 ty s
out_false plain x y v o o2 o3 t t2 t3 ty at at2 at3 s h = ap (λ i. choose_out i x y v o t at o2 t2 at2 o3 t3 at3 ty s) h

no_sides : (e x y z : TypedExpr) → reads e.kind ≡ 0 → e.kind ≡ expr.Choose x y z → reads y.kind + reads z.kind ≡ 0
no_sides e x y z t is = omega (arith, eqb-true (reads x.kind + reads y.kind + reads z.kind) 0 (reads_choice e x y z is ∙ ap (λ n. n == 0) t))

true_false : false ≡ true → ⊥
true_false e = cc

pub kept_arm : (e x y z x1 y1 z1 : TypedExpr) (p1 p2 p3 : Bool) (b0 : List NormalStmt) (v0 : List Ty) (b1 : List NormalStmt) (v1 : List Ty) (i0 i1 : List NormalStmt) (v2 : List Ty) (j0 j1 : List NormalStmt) (v3 : List Ty)
    → e.kind ≡ expr.Choose x y z → IsExpanded x b0 v0 b1 v1 x1 p1 → IsExpanded y i0 v1 i1 v2 y1 p2 → IsExpanded z j0 v2 j1 v3 z1 p3 → (p2 && p3) ≡ true → IsExpanded e b0 v0 b1 v3 (of_type (expr.Choose x1 y1 z1) e.ty e.at) p1
kept_arm e x y z x1 y1 z1 p1 p2 p3 b0 v0 b1 v1 i0 i1 v2 j0 j1 v3 is h i j qt =
    let f = length v0 in
    let o = expand_expr f x in
    let g = f + length o.types in
    let o2 = expand_expr g y in
    let k = g + length o2.types in
    let o3 = expand_expr k z in
    let test : (reads y.kind + reads z.kind == 0) ≡ true = sym (both_zero p2 p3 (reads y.kind) (reads z.kind) i.plain j.plain) ∙ qt in
    let sum = eqb-true (reads y.kind + reads z.kind) 0 test in
    let m = plain_out y (length v1) i0 v1 i1 v2 y1 (omega (arith, sum)) i.out in
    let n = plain_out z (length v2) j0 v2 j1 v3 z1 (omega (arith, sum)) j.out in
    let e1 = expand_choice f e x y z is ∙ out_true (reads y.kind + reads z.kind == 0) y z (k + length o3.types) o o2 o3 x.ty y.ty z.ty e.ty x.at y.at z.at e.at test in
    let same : v3 ≡ v1 = n.made ∙ append-nil v2 ∙ m.made ∙ append-nil v1 in
    let count : reads x.kind ≡ reads x.kind + reads y.kind + reads z.kind = omega (arith, sum) in
    record {
      out = as_out (expand_expr f e) (record { before = o.before; kind = expr.Choose (of_type o.kind x.ty x.at) y z; types = o.types }) e.ty e.at b0 v0 b1 v3 (of_type (expr.Choose x1 y1 z1) e.ty e.at) e1 (record {
        rest = ap (λ w. of_type (expr.Choose w y1 z1) e.ty e.at) h.out.rest ∙ ap (λ w. of_type (expr.Choose (of_type o.kind x.ty x.at) w z1) e.ty e.at) m.rest ∙ ap (λ w. of_type (expr.Choose (of_type o.kind x.ty x.at) y w) e.ty e.at) n.rest;
        set = h.out.set;
        made = same ∙ h.out.made;
      });
      plain = h.plain ∙ ap (λ n. n == 0) count ∙ reads_choice e x y z is;
    }

pub choice_arm : (e x y z x1 y1 z1 : TypedExpr) (p1 p2 p3 : Bool) (b0 : List NormalStmt) (v0 : List Ty) (b1 : List NormalStmt) (v1 : List Ty) (i0 i1 : List NormalStmt) (v2 : List Ty) (j0 j1 : List NormalStmt) (v3 v4 : List Ty) (b2 : List NormalStmt) (w : ℕ)
    → e.kind ≡ expr.Choose x y z → IsExpanded x b0 v0 b1 v1 x1 p1 → i0 ≡ [] → IsExpanded y i0 v1 i1 v2 y1 p2 → j0 ≡ [] → IsExpanded z j0 v2 j1 v3 z1 p3 → (p2 && p3) ≡ false → w ≡ length v3 → v4 ≡ v3 ++ e.ty ∷ []
    → b2 ≡ b1 ++ choice w x1 (side w i1 y1 e.at) (side w j1 z1 e.at) e.at ∷ [] → IsExpanded e b0 v0 b2 v4 (of_type (expr.Var w) e.ty e.at) false
choice_arm e x y z x1 y1 z1 p1 p2 p3 b0 v0 b1 v1 i0 i1 v2 j0 j1 v3 v4 b2 w is h ie i je j qf we ve be =
    let f = length v0 in
    let o = expand_expr f x in
    let g = f + length o.types in
    let o2 = expand_expr g y in
    let k = g + length o2.types in
    let o3 = expand_expr k z in
    let u = k + length o3.types in
    let m = second_out o y i0 v0 v1 i1 v2 y1 h.out.made i.out in
    let n = subst (λ l. IsOut (expand_expr l z) z.ty z.at j0 v2 j1 v3 z1) (longer v1 v2 o2.types m.made ∙ ap (λ l. l + length o2.types) (longer v0 v1 o.types h.out.made)) j.out in
    let test : (reads y.kind + reads z.kind == 0) ≡ false = sym (both_zero p2 p3 (reads y.kind) (reads z.kind) i.plain j.plain) ∙ qf in
    let e1 = expand_choice f e x y z is ∙ out_false (reads y.kind + reads z.kind == 0) y z u o o2 o3 x.ty y.ty z.ty e.ty x.at y.at z.at e.at test in
    let number : w ≡ u = omega (arith, we, longer v2 v3 o3.types n.made, longer v1 v2 o2.types m.made, longer v0 v1 o.types h.out.made) in
    let inside : i1 ≡ o2.before = m.set ∙ ap (λ l. l ++ o2.before) ie in
    let inside2 : j1 ≡ o3.before = n.set ∙ ap (λ l. l ++ o3.before) je in
    let yes_side = side u o2.before (of_type o2.kind y.ty y.at) e.at in
    let no_side = side u o3.before (of_type o3.kind z.ty z.at) e.at in
    let stmt : choice w x1 (side w i1 y1 e.at) (side w j1 z1 e.at) e.at ≡ choice u (of_type o.kind x.ty x.at) yes_side no_side e.at =
    λ q. choice (number q) (h.out.rest q) (side (number q) (inside q) (m.rest q) e.at) (side (number q) (inside2 q) (n.rest q) e.at) e.at in
    record {
      out = as_out (expand_expr f e) (choose_out false y z u o x.ty x.at o2 y.ty y.at o3 z.ty z.at e.ty e.at) e.ty e.at b0 v0 b2 v4 (of_type (expr.Var w) e.ty e.at) e1 (record {
        rest = ap (λ n. of_type (expr.Var n) e.ty e.at) number;
        set = behind b0 b1 b2 o.before (choice u (of_type o.kind x.ty x.at) yes_side no_side e.at ∷ []) h.out.set (be ∙ ap (λ t. b1 ++ t ∷ []) stmt);
        made = behind v0 v1 v4 o.types (o2.types ++ (o3.types ++ e.ty ∷ [])) h.out.made (behind v1 v2 v4 o2.types (o3.types ++ e.ty ∷ []) m.made (behind v2 v3 v4 o3.types (e.ty ∷ []) n.made ve));
      });
      plain = sym (ne_eqb (reads e.kind) 0 (λ t. true_false (sym test ∙ ap (λ n. n == 0) (no_sides e x y z t is))));
    }

-- ---- several expressions, one by one

pub goes_first : (all : Outs) (b : List NormalStmt) (v : List Ty) (xs : List TypedExpr) → xs ≡ [] → GoesOn all all b v b v xs
goes_first all b v xs e = record { rest = ap (λ l. l ++ all.exprs) e; set = refl; made = refl }

abbrev with_rest : Out → Ty → Span → Outs → Outs
with_rest o ty at r = record { before = o.before ++ r.before; exprs = of_type o.kind ty at ∷ r.exprs; types = o.types ++ r.types }

goes_next : (o : Out) (r all : Outs) (ty : Ty) (at : Span) (b0 : List NormalStmt) (v0 : List Ty) (b : List NormalStmt) (v : List Ty) (b2 : List NormalStmt) (v2 : List Ty) (xs xs2 : List TypedExpr) (x : TypedExpr)
    → GoesOn (with_rest o ty at r) all b0 v0 b v xs → IsOut o ty at b v b2 v2 x → xs2 ≡ xs ++ x ∷ [] → GoesOn r all b0 v0 b2 v2 xs2
goes_next o r all ty at b0 v0 b v b2 v2 xs xs2 x g p e = record {
  rest = ap (λ l. l ++ r.exprs) e ∙ append_assoc xs (x ∷ []) r.exprs ∙ ap (λ y. xs ++ y ∷ r.exprs) p.rest ∙ g.rest;
  set = ap (λ l. l ++ r.before) p.set ∙ append_assoc b o.before r.before ∙ g.set;
  made = ap (λ l. l ++ r.types) p.made ∙ append_assoc v o.types r.types ∙ g.made;
}

-- nothing is left of what is made for the items from a place on
pub goes_end : (made : List TypedExpr → Outs) (es : List TypedExpr) (i : ℕ) (all : Outs) (b0 : List NormalStmt) (v0 : List Ty) (b : List NormalStmt) (v : List Ty) (xs : List TypedExpr) → made [] ≡ record { before = []; exprs = []; types = [] } → length es ≤ i → GoesOn (made (drop i es)) all b0 v0 b v xs → AreOut all b0 v0 b v xs
goes_end made es i all b0 v0 b v xs none h g =
    let e = ap made (drop_all i es h) ∙ none in
    record {
      rest = sym (append-nil xs) ∙ ap (λ (o : Outs). xs ++ o.exprs) (sym e) ∙ g.rest;
      set = sym (append-nil b) ∙ ap (λ (o : Outs). b ++ o.before) (sym e) ∙ g.set;
      made = sym (append-nil v) ∙ ap (λ (o : Outs). v ++ o.types) (sym e) ∙ g.made;
    }

sum_from : {X : Type 0} (f : X → ℕ) (xs : List X) (i : ℕ) (x : X) → i < length xs → x ≡ get_or xs i x → sum_by f (drop i xs) ≡ f x + sum_by f (drop (i + 1) xs)
sum_from f xs i x h is = sum_by-drop_more f xs i x h ∙ ap (λ y. f y + sum_by f (drop (i + 1) xs)) (sym is)

-- room for the next item, and then for the others
pub part_room : {X : Type 0} (f : X → ℕ) (xs : List X) (i : ℕ) (x : X) (v0 v : List Ty) → i < length xs → x ≡ get_or xs i x → length v + sum_by f (drop i xs) ≤ length v0 + sum_by f xs → HasRoom v0 (sum_by f xs) → HasRoom v (f x)
part_room f xs i x v0 v h is r room = omega (arith, sum_from f xs i x h is)

pub room_next : {X : Type 0} (f : X → ℕ) (xs : List X) (i : ℕ) (x : X) (v0 v v2 : List Ty) → i < length xs → x ≡ get_or xs i x → length v + sum_by f (drop i xs) ≤ length v0 + sum_by f xs → length v2 ≤ length v + f x → length v2 + sum_by f (drop (i + 1) xs) ≤ length v0 + sum_by f xs
room_next f xs i x v0 v v2 h is r few = omega (arith, sum_from f xs i x h is)

pub expand_next : (es : List TypedExpr) (i : ℕ) (e : TypedExpr) (all : Outs) (b0 : List NormalStmt) (v0 : List Ty) (b : List NormalStmt) (v : List Ty) (b2 : List NormalStmt) (v2 : List Ty) (xs xs2 : List TypedExpr) (x : TypedExpr) (p : Bool)
    → i < length es → e ≡ get_or es i e → GoesOn (expand_all (length v) (drop i es)) all b0 v0 b v xs → IsExpanded e b v b2 v2 x p → xs2 ≡ xs ++ x ∷ [] → GoesOn (expand_all (length v2) (drop (i + 1) es)) all b0 v0 b2 v2 xs2
expand_next es i e all b0 v0 b v b2 v2 xs xs2 x p h is g q eq =
    let o = expand_expr (length v) e in
    let r = expand_all (length v + length o.types) (drop (i + 1) es) in
    let now = subst (λ l. GoesOn (expand_all (length v) l) all b0 v0 b v xs) (from_place es i e h is) g in
    subst (λ n. GoesOn (expand_all n (drop (i + 1) es)) all b0 v0 b2 v2 xs2) (sym (longer v v2 o.types q.out.made)) (goes_next o r all e.ty e.at b0 v0 b v b2 v2 xs xs2 x now q.out eq)

-- an expression with what sets it
pub set_arm : (e : TypedExpr) (b0 : List NormalStmt) (v0 : List Ty) (b1 : List NormalStmt) (v1 : List Ty) (b2 : List NormalStmt) (v2 : List Ty) (x : TypedExpr) (p : Bool) (w : ℕ) (s : NormalStmt) → IsExpanded e b0 v0 b1 v1 x p → w ≡ length v1 → v2 ≡ v1 ++ e.ty ∷ [] → s ≡ setting w x e.at → b2 ≡ b1 ++ s ∷ []
    → IsOut (set_out (length v0) e) e.ty e.at b0 v0 b2 v2 (of_type (expr.Var w) e.ty e.at)
set_arm e b0 v0 b1 v1 b2 v2 x p w s h we ve se be =
    let o = expand_expr (length v0) e in
    let number : w ≡ length v0 + length o.types = we ∙ longer v0 v1 o.types h.out.made in
    let stmt : s ≡ setting (length v0 + length o.types) (rest_of o e) e.at = se ∙ ap (λ n. setting n x e.at) number ∙ ap (λ z. setting (length v0 + length o.types) z e.at) h.out.rest in
    record {
      rest = ap (λ n. of_type (expr.Var n) e.ty e.at) number;
      set = behind b0 b1 b2 o.before (setting (length v0 + length o.types) (rest_of o e) e.at ∷ []) h.out.set (be ∙ ap (λ z. b1 ++ z ∷ []) stmt);
      made = behind v0 v1 v2 o.types (e.ty ∷ []) h.out.made ve;
    }

set_cons : (f : ℕ) (e : TypedExpr) (es : List TypedExpr) → set_all f (e ∷ es) ≡ with_rest (set_out f e) e.ty e.at (set_all (f + length (set_out f e).types) es)
set_cons f e es =
    let o = expand_expr f e in
    let v = f + length o.types in
    let n : v + 1 ≡ f + length (o.types ++ e.ty ∷ []) = omega (arith, length-append o.types (e.ty ∷ [])) in
    let r = set_all (f + length (o.types ++ e.ty ∷ [])) es in
    ap (λ (z : Outs). record { before = o.before ++ setting v (rest_of o e) e.at ∷ z.before; exprs = of_type (expr.Var v) e.ty e.at ∷ z.exprs; types = o.types ++ e.ty ∷ z.types }) (ap (λ m. set_all m es) n)
    ∙ ap (λ l. record { before = l; exprs = of_type (expr.Var v) e.ty e.at ∷ r.exprs; types = o.types ++ e.ty ∷ r.types }) (sym (append_assoc o.before (setting v (rest_of o e) e.at ∷ []) r.before))
    ∙ ap (λ l. record { before = (o.before ++ setting v (rest_of o e) e.at ∷ []) ++ r.before; exprs = of_type (expr.Var v) e.ty e.at ∷ r.exprs; types = l }) (sym (append_assoc o.types (e.ty ∷ []) r.types))

pub set_next : (es : List TypedExpr) (i : ℕ) (e : TypedExpr) (all : Outs) (b0 : List NormalStmt) (v0 : List Ty) (b : List NormalStmt) (v : List Ty) (b2 : List NormalStmt) (v2 : List Ty) (xs xs2 : List TypedExpr) (x : TypedExpr)
    → i < length es → e ≡ get_or es i e → GoesOn (set_all (length v) (drop i es)) all b0 v0 b v xs → IsOut (set_out (length v) e) e.ty e.at b v b2 v2 x → xs2 ≡ xs ++ x ∷ [] → GoesOn (set_all (length v2) (drop (i + 1) es)) all b0 v0 b2 v2 xs2
set_next es i e all b0 v0 b v b2 v2 xs xs2 x h is g q eq =
    let o = set_out (length v) e in
    let r = set_all (length v + length o.types) (drop (i + 1) es) in
    let now = subst (λ l. GoesOn l all b0 v0 b v xs) (ap (set_all (length v)) (from_place es i e h is) ∙ set_cons (length v) e (drop (i + 1) es)) g in
    subst (λ n. GoesOn (set_all n (drop (i + 1) es)) all b0 v0 b2 v2 xs2) (sym (longer v v2 o.types q.made)) (goes_next o r all e.ty e.at b0 v0 b v b2 v2 xs xs2 x now q eq)

pub few_one : (e : TypedExpr) (b : List NormalStmt) (v : List Ty) (b2 : List NormalStmt) (v2 : List Ty) (x : TypedExpr) → IsOut (set_out (length v) e) e.ty e.at b v b2 v2 x → length v2 ≤ length v + typed_expr_nodes e
few_one e b v b2 v2 x h = omega (arith, longer v v2 (set_out (length v) e).types h.made, length-append (expand_expr (length v) e).types (e.ty ∷ []), few_made (length v) e)
