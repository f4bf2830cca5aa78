-- What is set for an expression, before it, assigns to no array.
use Rattle.std.proofs.Common.{◌≡◌, ℕ, ◌+◌, List, [], ◌∷◌, ◌++◌, length, Option, Some, None, refl, ◌∙◌, ap}
use Rattle.std.specs.Prelude.{◌==◌, Bool, true, false}
use Rattle.std.proofs.lemmas.Grind.{flat_map-append}
use mathlib.Core.Former.{Count}
use Rattle.el_base.specs.declared.span.Span.{Span}
use Rattle.el_base.specs.declared.ty.Ty.{Ty}
use Rattle.c_ast.specs.Casts.{of_type}
use Rattle.c_ast.specs.declared.tree.Binary.{Binary}
use Rattle.c_ast.specs.declared.typed.TypedExpr.{TypedExpr}
use Rattle.c_ast.specs.declared.typed.TypedExprKind.{TypedExprKind, Row_of-TypedExpr, end_of-TypedExpr, more_of-TypedExpr}
use Rattle.c_ast.specs.declared.typed.TypedExprKind as tree
use Rattle.c_ast.specs.declared.normal.NormalStmt.{NormalStmt}
use Rattle.c_meaning.specs.Sizes.{reads}
use Rattle.c_norm.specs.Expand.{Out, setting, constant, truth_of, side, choice, decided_by, logical, binary_out, choose_out, expand, expand_row, expand_expr, rest_of, expand_all, set_all}
use Rattle.kernel_graph.proofs.Normals.{assigned, all_assigned, block_assigned, if_assigned}

-- statements that assign to no array
abbrev pub AreSettings : List NormalStmt → Type 0
AreSettings ss = all_assigned ss ≡ []

-- statements one after another
pub joined_assigned : (ss us : List NormalStmt) (xs ys : List ℕ) → all_assigned ss ≡ xs → all_assigned us ≡ ys → all_assigned (ss ++ us) ≡ xs ++ ys
joined_assigned ss us xs ys a b = flat_map-append (λ (s : NormalStmt). assigned s.kind) ss us ∙ ap (λ zs. zs ++ all_assigned us) a ∙ ap (λ zs. xs ++ zs) b

pub both_settings : (ss us : List NormalStmt) → AreSettings ss → AreSettings us → AreSettings (ss ++ us)
both_settings ss us a b = joined_assigned ss us [] [] a b

one_setting : (s : NormalStmt) → assigned s.kind ≡ [] → AreSettings (s ∷ [])
one_setting s e = ap (λ xs. xs ++ []) e

side_sets : (v : ℕ) (before : List NormalStmt) (e : TypedExpr) (s : Span) → AreSettings before → assigned (side v before e s).kind ≡ []
side_sets v before e s h = block_assigned (before ++ setting v e s ∷ []) ∙ both_settings before (setting v e s ∷ []) h refl

choice_sets : (v : ℕ) (c : TypedExpr) (x y : NormalStmt) (s : Span) → assigned x.kind ≡ [] → assigned y.kind ≡ [] → assigned (choice v c x y s).kind ≡ []
choice_sets v c x y s a b = if_assigned [] c x (Some y) [] [] refl a b

logical_sets : (d : Bool) (v : ℕ) (a : TypedExpr) (before : List NormalStmt) (b : TypedExpr) (s : Span) → AreSettings before → assigned (logical d v a before b s).kind ≡ []
logical_sets false v a before b s h =
    choice_sets v a (side v before (truth_of b s) s) (side v [] (constant 0 s) s) s (side_sets v before (truth_of b s) s h) (side_sets v [] (constant 0 s) s refl)
logical_sets true v a before b s h =
    choice_sets v a (side v [] (constant 1 s) s) (side v before (truth_of b s) s) s (side_sets v [] (constant 1 s) s refl) (side_sets v before (truth_of b s) s h)

binary_sets : (d : Option Bool) (plain : Bool) (kind : TypedExprKind) (op : Binary) (v : ℕ) (o : Out) (t : Ty) (at : Span) (o2 : Out) (t2 : Ty) (at2 s : Span) → AreSettings o.before → AreSettings o2.before
    → AreSettings (binary_out d plain kind op v o t at o2 t2 at2 s).before
binary_sets None plain kind op v o t at o2 t2 at2 s a b = both_settings o.before o2.before a b
binary_sets (Some d) true kind op v o t at o2 t2 at2 s a b = refl
binary_sets (Some d) false kind op v o t at o2 t2 at2 s a b =
    let x = logical d v (of_type o.kind t at) o2.before (of_type o2.kind t2 at2) s in
    both_settings o.before (x ∷ []) a (one_setting x (logical_sets d v (of_type o.kind t at) o2.before (of_type o2.kind t2 at2) s b))

choose_sets : (plain : Bool) (x y : TypedExpr) (v : ℕ) (o : Out) (t : Ty) (at : Span) (o2 : Out) (t2 : Ty) (at2 : Span) (o3 : Out) (t3 : Ty) (at3 : Span) (ty : Ty) (s : Span)
    → AreSettings o.before → AreSettings o2.before → AreSettings o3.before → AreSettings (choose_out plain x y v o t at o2 t2 at2 o3 t3 at3 ty s).before
choose_sets true x y v o t at o2 t2 at2 o3 t3 at3 ty s a b c = a
choose_sets false x y v o t at o2 t2 at2 o3 t3 at3 ty s a b c =
    let cond = of_type o.kind t at in
    let p = side v o2.before (of_type o2.kind t2 at2) s in
    let q = side v o3.before (of_type o3.kind t3 at3) s in
    let r = choice v cond p q s in
    both_settings o.before (r ∷ []) a (one_setting r (choice_sets v cond p q s (side_sets v o2.before (of_type o2.kind t2 at2) s b) (side_sets v o3.before (of_type o3.kind t3 at3) s c)))

mutual
  kind_sets : (f : ℕ) (e : TypedExprKind) (ty : Ty) (s : Span) → AreSettings (expand f e ty s).before
  kind_sets f (tree.Number n) ty s = refl
  kind_sets f (tree.Var v) ty s = refl
  kind_sets f (tree.Element' a n row) ty s = row_sets f row
  kind_sets f (tree.Unary' op b (more_of-TypedExpr e t at end_of-TypedExpr)) ty s = kind_sets f e t at
  kind_sets f (tree.Cast' implied b (more_of-TypedExpr e t at end_of-TypedExpr)) ty s = kind_sets f e t at
  kind_sets f (tree.Binary' op b (more_of-TypedExpr e t at end_of-TypedExpr) b2 (more_of-TypedExpr e2 t2 at2 end_of-TypedExpr)) ty s =
      let o = expand f e t at in
      let g = f + length o.types in
      let o2 = expand g e2 t2 at2 in
      let kind = tree.Binary' op b (more_of-TypedExpr e t at end_of-TypedExpr) b2 (more_of-TypedExpr e2 t2 at2 end_of-TypedExpr) in
      binary_sets (decided_by op) (reads e + reads e2 == 0) kind op (g + length o2.types) o t at o2 t2 at2 s (kind_sets f e t at) (kind_sets g e2 t2 at2)
  kind_sets f (tree.Choose' b (more_of-TypedExpr e t at end_of-TypedExpr) b2 (more_of-TypedExpr e2 t2 at2 end_of-TypedExpr) b3 (more_of-TypedExpr e3 t3 at3 end_of-TypedExpr)) ty s =
      let o = expand f e t at in
      let g = f + length o.types in
      let o2 = expand g e2 t2 at2 in
      let h = g + length o2.types in
      let o3 = expand h e3 t3 at3 in
      choose_sets (reads e2 + reads e3 == 0) (of_type e2 t2 at2) (of_type e3 t3 at3) (h + length o3.types) o t at o2 t2 at2 o3 t3 at3 ty s (kind_sets f e t at) (kind_sets g e2 t2 at2) (kind_sets h e3 t3 at3)

  row_sets : (f : ℕ) {n : Count} (row : Row_of-TypedExpr n) → AreSettings (expand_row f row).before
  row_sets f end_of-TypedExpr = refl
  row_sets f (more_of-TypedExpr e t at row) =
      let o = expand f e t at in
      let r = expand_row (f + length o.types) row in
      both_settings o.before r.before (kind_sets f e t at) (row_sets (f + length o.types) row)

pub expr_sets : (f : ℕ) (e : TypedExpr) → AreSettings (expand_expr f e).before
expr_sets f e = kind_sets f e.kind e.ty e.at

pub all_sets : (f : ℕ) (es : List TypedExpr) → AreSettings (expand_all f es).before
all_sets f [] = refl
all_sets f (e ∷ es) =
    let o = expand_expr f e in
    let r = expand_all (f + length o.types) es in
    both_settings o.before r.before (expr_sets f e) (all_sets (f + length o.types) es)

pub set_sets : (f : ℕ) (es : List TypedExpr) → AreSettings (set_all f es).before
set_sets f [] = refl
set_sets f (e ∷ es) =
    let o = expand_expr f e in
    let v = f + length o.types in
    let r = set_all (v + 1) es in
    both_settings o.before (setting v (rest_of o e) e.at ∷ r.before) (expr_sets f e) (set_sets (v + 1) es)
