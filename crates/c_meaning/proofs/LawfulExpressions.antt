-- What an expression of a tree that keeps the rules on names is cast to is lawful.
use Rattle.std.proofs.Common.{◌≡◌, ℕ, zero, suc, List, [], ◌∷◌, ◌++◌, length, Option, Some, None, refl, sym, ◌∙◌, ap, subst, cond, arith, append_assoc, append-nil}
use Rattle.std.proofs.lemmas.Bool.{false≢true}
use Rattle.std.proofs.lemmas.List.Elements.{All-head, All-tail}
use Rattle.std.specs.Prelude.{Bool, true, false, ◌==◌, flat_map, slice_get, All, if◌then◌else◌}
use Rattle.std.specs.Cmp.Lexicographic.{pointwise}
use Rattle.std.specs.Map.{lookup}
use mathlib.Core.Former.{Count}
use Rattle.el_base.specs.declared.span.Span.{Span}
use Rattle.el_base.specs.declared.ty.Ty.{Ty}
use Rattle.c_ast.specs.declared.tree.Unary.{Unary}
use Rattle.c_ast.specs.declared.tree.Binary.{Binary}
use Rattle.c_ast.specs.declared.tree.Target.{Target}
use Rattle.c_ast.specs.declared.tree.Expr.{Expr}
use Rattle.c_ast.specs.declared.tree.ExprKind.{ExprKind, Row_of-Expr, end_of-Expr, more_of-Expr}
use Rattle.c_ast.specs.declared.tree.ExprKind as raw
use Rattle.c_ast.specs.declared.typed.ArrayOf.{ArrayOf}
use Rattle.c_ast.specs.declared.typed.TypedExpr.{TypedExpr}
use Rattle.c_ast.specs.declared.typed.TypedExprKind.TheVariants as typed
use Rattle.c_ast.specs.declared.typed.TypedExprKind.TheBlock.{hidden-the_row-TypedExpr-0}
use Rattle.c_ast.specs.Typing.{TypingKind, TypingRow, TypingExpr, TypingOption, TypingTarget, row_length as tree_row_length}
use Rattle.c_ast.specs.ResultTypes.{promoted, usual, joint_type, result_type, unary_type}
use Rattle.c_meaning.specs.Stores.{Objects}
use Rattle.c_ast.specs.Constants.{NumbersFitKind, NumbersFitRow, NumbersFitExpr, NumbersFitOption, NumbersFitTarget}
use Rattle.c_ast.specs.Casts.{Declared, a_var, an_array, Scope, Context, declared_as, into_innermost, same_type, of_type, converted, left_type, right_type}
use Rattle.c_meaning.specs.Lawful.{is_implied, IsElement, IsVar, AreOperands, AreSides, row_length, LawfulRow, LawfulExpr, LawfulOption, LawfulTarget}
use Rattle.c_meaning.proofs.Elaboration.{name_as, element_as, unary_as, binary_as, choose_as, cast_kind, cast_row, cast_expr, cast_exprs, cast_option, target_as, cast_target}
use Rattle.c_meaning.proofs.Contexts.{sorts_of, UsedAs, usable, uncallable}
use Rattle.c_meaning.proofs.Existence.{not_below_zero}
use Rattle.c_meaning.proofs.TypeLemmas.{promoted_twice, usual_self, operands_are, converted_type}
use Rattle.c_meaning.proofs.TreeRows.{typed_expr_rows}

-- ---- a list goes on in another

pub record Extends {X : Type 0} (xs ys : List X) : Type 0 where
  pub rest : List X
  pub is : ys ≡ xs ++ rest

pub extends_refl : {X : Type 0} (xs : List X) → Extends xs xs
extends_refl xs = record { rest = []; is = sym (append-nil xs) }

pub extends_more : {X : Type 0} (xs ys : List X) → Extends xs (xs ++ ys)
extends_more xs ys = record { rest = ys; is = refl }

pub extends_trans : {X : Type 0} {xs ys zs : List X} → Extends xs ys → Extends ys zs → Extends xs zs
extends_trans {xs = xs} a b = record { rest = a.rest ++ b.rest; is = b.is ∙ ap (λ u. u ++ b.rest) a.is ∙ append_assoc xs a.rest b.rest }

pub get_kept : {X : Type 0} (xs ys : List X) (v : ℕ) (t : X) → slice_get xs v ≡ Some t → slice_get (xs ++ ys) v ≡ Some t
get_kept [] ys v t h = cc
get_kept (x ∷ xs) ys zero t h = h
get_kept (x ∷ xs) ys (suc v) t h = get_kept xs ys v t h

pub get_extends : {X : Type 0} (xs ys : List X) (v : ℕ) (t : X) → Extends xs ys → slice_get xs v ≡ Some t → slice_get ys v ≡ Some t
get_extends xs ys v t e h = subst (λ u. slice_get u v ≡ Some t) (sym e.is) (get_kept xs e.rest v t h)

pub get_last : {X : Type 0} (xs : List X) (t : X) → slice_get (xs ++ t ∷ []) (length xs) ≡ Some t
get_last [] t = refl
get_last (x ∷ xs) t = get_last xs t

-- ---- declarations that stand for objects

abbrev pub Means : Objects → Option Declared → Type 0
Means k None = Unit {0}
Means k (Some (a_var v t)) = IsVar k v t
Means k (Some (an_array a t ds)) = (x : ArrayOf) × (slice_get k.arrays a ≡ Some x) × (x.ty ≡ t) × (x.dims ≡ ds)

abbrev pub found_in : List Scope → List ℕ → Option Declared
found_in ss x = lookup (pointwise ◌==◌ x) (flat_map (λ (s : Scope). s) ss)

-- each name in force stands for an object of the lists
pub record Valid (k : Objects) (ss : List Scope) : Type 0 where
  pub means : (x : List ℕ) → Means k (found_in ss x)

pub opened_valid : (k : Objects) (ss : List Scope) → Valid k ss → Valid k ([] ∷ ss)
opened_valid k ss v = record { means = v.means }

means_if : (k : Objects) (b : Bool) (d : Declared) (o : Option Declared) → Means k (Some d) → Means k o → Means k (cond b (Some d) o)
means_if k true d o m n = m
means_if k false d o m n = n

pub into_valid : (k : Objects) (ss : List Scope) (x : List ℕ) (d : Declared) → Means k (Some d) → Valid k ss → Valid k (into_innermost (x, d) ss)
into_valid k [] x d m v = record { means = λ y. means_if k (pointwise ◌==◌ y x) d None m tt }
into_valid k (s ∷ ss) x d m v = record { means = λ y. means_if k (pointwise ◌==◌ y x) d (found_in (s ∷ ss) y) m (v.means y) }

-- ---- expressions

-- each of a list
abbrev pub LawfulExprs : Objects → List TypedExpr → Type 0
LawfulExprs k [] = Unit {0}
LawfulExprs k (f ∷ fs) = LawfulExpr k f × LawfulExprs k fs

row_lawful : (k : Objects) (fs : List TypedExpr) → LawfulExprs k fs → LawfulRow k (hidden-the_row-TypedExpr-0 fs)
unfolding typed_expr_rows
row_lawful k [] h = tt
row_lawful k (f ∷ fs) h = (h.0, row_lawful k fs h.1)

pub row_length_is : (fs : List TypedExpr) → row_length (hidden-the_row-TypedExpr-0 fs) ≡ length fs
unfolding typed_expr_rows
row_length_is [] = refl
row_length_is (f ∷ fs) = let r : row_length (hidden-the_row-TypedExpr-0 fs) ≡ length fs = row_length_is fs in omega arith

cast_row_length : (c : Context) {n : Count} (row : Row_of-Expr n) → tree_row_length row ≡ length (cast_row c row)
cast_row_length c end_of-Expr = refl
cast_row_length c (more_of-Expr e at row) = let r : tree_row_length row ≡ length (cast_row c row) = cast_row_length c row in omega arith

pub cast_exprs_length : (c : Context) (es : List Expr) → length es ≡ length (cast_exprs c es)
cast_exprs_length c [] = refl
cast_exprs_length c (e ∷ es) = let r : length es ≡ length (cast_exprs c es) = cast_exprs_length c es in omega arith

-- an element of an array with as many indices as it has dimensions
pub is_element : (k : Objects) (a : ℕ) (t : Ty) (ds : List ℕ) (n : ℕ) → n ≡ length ds → Means k (Some (an_array a t ds)) → IsElement k a n t
is_element k a t ds n e m = (m.0, m.1, m.2, ap length m.3 ∙ sym e)

-- it is lawful, and no cast that is marked as implied
pub record Unconverted (k : Objects) (e : TypedExpr) : Type 0 where
  pub lawful : LawfulExpr k e
  pub written : is_implied e.kind ≡ false

name_lawful : (k : Objects) (s : Span) (o : Option Declared) → UsedAs 0 o → Means k o → Unconverted k (name_as o s)
unfolding typed_expr_rows
name_lawful k s None u m = absurd u
name_lawful k s (Some (a_var v t)) u m = record { lawful = m; written = refl }
name_lawful k s (Some (an_array a t ds)) u m = absurd (not_below_zero u.0)

element_lawful : (k : Objects) (s : Span) (fs : List TypedExpr) (o : Option Declared) → UsedAs (length fs) o → Means k o → LawfulExprs k fs → Unconverted k (element_as o fs s)
unfolding typed_expr_rows
element_lawful k s fs None u m h = absurd u
element_lawful k s fs (Some (a_var v t)) u m h = record { lawful = m; written = refl }
element_lawful k s fs (Some (an_array a t ds)) u m h =
    record { lawful = (is_element k a t ds (row_length (hidden-the_row-TypedExpr-0 fs)) (row_length_is fs ∙ u.1) m, row_lawful k fs h); written = refl }

lawful_if : (k : Objects) (t : Ty) (e : TypedExpr) (b : Bool) → Unconverted k e → LawfulExpr k (if b then e else of_type (typed.Cast true e) t e.at)
unfolding typed_expr_rows
lawful_if k t e true h = h.lawful
lawful_if k t e false h = ((λ i. h.written), h.lawful)

pub converted_lawful : (k : Objects) (t : Ty) (e : TypedExpr) → Unconverted k e → LawfulExpr k (converted t e)
converted_lawful k t e h = lawful_if k t e (same_type t e.ty) h

-- the parts of an operator, which have the types that it asks
two_lawful : (k : Objects) (o : Binary) (f h : TypedExpr) (t : Ty) (s : Span) → AreOperands o f.ty h.ty t → LawfulExpr k f → LawfulExpr k h → Unconverted k (of_type (typed.Binary o f h) t s)
two_lawful k o f h t s a p q = unfold typed_expr_rows in record { lawful = (a, p, q); written = refl }

one_lawful : (k : Objects) (o : Unary) (f : TypedExpr) (t : Ty) (s : Span) → f.ty ≡ promoted f.ty → t ≡ unary_type o f.ty → LawfulExpr k f → Unconverted k (of_type (typed.Unary o f) t s)
one_lawful k o f t s a b p = unfold typed_expr_rows in record { lawful = (a, b, p); written = refl }

three_lawful : (k : Objects) (f h j : TypedExpr) (t : Ty) (s : Span) → AreSides h.ty j.ty t → LawfulExpr k f → LawfulExpr k h → LawfulExpr k j → Unconverted k (of_type (typed.Choose f h j) t s)
three_lawful k f h j t s a p q r = unfold typed_expr_rows in record { lawful = (a, p, q, r); written = refl }

cast_lawful : (k : Objects) (f : TypedExpr) (t : Ty) (s : Span) → LawfulExpr k f → Unconverted k (of_type (typed.Cast false f) t s)
cast_lawful k f t s p = unfold typed_expr_rows in record { lawful = ((λ i. absurd (false≢true i)), p); written = refl }

unary_lawful : (k : Objects) (o : Unary) (f : TypedExpr) (s : Span) → Unconverted k f → Unconverted k (unary_as o f s)
unary_lawful k o f s h =
    let g = converted (promoted f.ty) f in
    let p : g.ty ≡ promoted f.ty = converted_type (promoted f.ty) f in
    one_lawful k o g (unary_type o (promoted f.ty)) s (p ∙ sym (promoted_twice f.ty) ∙ ap promoted (sym p)) (ap (unary_type o) (sym p)) (converted_lawful k (promoted f.ty) f h)

binary_lawful : (k : Objects) (o : Binary) (f h : TypedExpr) (s : Span) → Unconverted k f → Unconverted k h → Unconverted k (binary_as o f h s)
binary_lawful k o f h s p q =
    let a = left_type o f.ty h.ty in
    let b = right_type o f.ty h.ty in
    let t = result_type o (joint_type o f.ty h.ty) in
    let x : a ≡ (converted a f).ty = sym (converted_type a f) in
    let y : b ≡ (converted b h).ty = sym (converted_type b h) in
    two_lawful k o (converted a f) (converted b h) t s
    (subst (λ u. AreOperands o u (converted b h).ty t) x (subst (λ u. AreOperands o a u t) y (operands_are o f.ty h.ty)))
    (converted_lawful k a f p) (converted_lawful k b h q)

choose_lawful : (k : Objects) (f h j : TypedExpr) (s : Span) → Unconverted k f → Unconverted k h → Unconverted k j → Unconverted k (choose_as f h j s)
choose_lawful k f h j s p q r =
    let t = usual h.ty j.ty in
    let x : t ≡ (converted t h).ty = sym (converted_type t h) in
    let y : t ≡ (converted t j).ty = sym (converted_type t j) in
    let u : t ≡ usual t t = sym (usual_self h.ty j.ty) in
    three_lawful k f (converted t h) (converted t j) t s
    (subst (λ a. AreSides a (converted t j).ty t) x (subst (λ b. AreSides t b t) y (u, u, u)))
    p.lawful (converted_lawful k t h q) (converted_lawful k t j r)

number_lawful : (k : Objects) (n : ℕ) (t : Ty) (s : Span) → NumbersFitKind (raw.Number n t) → Unconverted k (of_type (typed.Number n) t s)
number_lawful k n t s h = unfold typed_expr_rows in record { lawful = h; written = refl }

mutual
  pub kind_lawful : (k : Objects) (c : Context) → Valid k c.scopes → (e : ExprKind) (s : Span) → TypingKind (sorts_of c) e → NumbersFitKind e → Unconverted k (cast_kind c e s)
  kind_lawful k c v (raw.Number n t) s h f = number_lawful k n t s f
  kind_lawful k c v (raw.Name x) s h f = name_lawful k s (declared_as c x) (usable c x 0 h) (v.means x)
  kind_lawful k c v (raw.Element' x n row) s h f =
      element_lawful k s (cast_row c row) (declared_as c x) (subst (λ m. UsedAs m (declared_as c x)) (cast_row_length c row) (usable c x (tree_row_length row) h.0)) (v.means x)
      (exprs_lawful k c v row h.1 f)
  kind_lawful k c v (raw.Call' x n row) s h f = absurd (uncallable c x (tree_row_length row) h.0)
  kind_lawful k c v (raw.Unary' op b (more_of-Expr e at end_of-Expr)) s h f = unary_lawful k op (cast_kind c e at) s (kind_lawful k c v e at h f)
  kind_lawful k c v (raw.Cast' t b (more_of-Expr e at end_of-Expr)) s h f = cast_lawful k (cast_kind c e at) t s (kind_lawful k c v e at h f).lawful
  kind_lawful k c v (raw.Binary' op b (more_of-Expr e at end_of-Expr) b2 (more_of-Expr e2 at2 end_of-Expr)) s h f =
      binary_lawful k op (cast_kind c e at) (cast_kind c e2 at2) s (kind_lawful k c v e at h.0 f.0) (kind_lawful k c v e2 at2 h.1 f.1)
  kind_lawful k c v (raw.Choose' b (more_of-Expr e at end_of-Expr) b2 (more_of-Expr e2 at2 end_of-Expr) b3 (more_of-Expr e3 at3 end_of-Expr)) s h f =
      choose_lawful k (cast_kind c e at) (cast_kind c e2 at2) (cast_kind c e3 at3) s (kind_lawful k c v e at h.0 f.0) (kind_lawful k c v e2 at2 h.1 f.1) (kind_lawful k c v e3 at3 h.2 f.2)

  exprs_lawful : (k : Objects) (c : Context) → Valid k c.scopes → {n : Count} (row : Row_of-Expr n) → TypingRow (sorts_of c) row → NumbersFitRow row → LawfulExprs k (cast_row c row)
  exprs_lawful k c v end_of-Expr h f = tt
  exprs_lawful k c v (more_of-Expr e at row) h f = ((kind_lawful k c v e at h.0 f.0).lawful, exprs_lawful k c v row h.1 f.1)

pub expr_unconverted : (k : Objects) (c : Context) → Valid k c.scopes → (e : Expr) → TypingExpr (sorts_of c) e → NumbersFitExpr e → Unconverted k (cast_expr c e)
expr_unconverted k c v e h f = kind_lawful k c v e.kind e.at h f

pub expr_lawful : (k : Objects) (c : Context) → Valid k c.scopes → (e : Expr) → TypingExpr (sorts_of c) e → NumbersFitExpr e → LawfulExpr k (cast_expr c e)
expr_lawful k c v e h f = (expr_unconverted k c v e h f).lawful

pub option_lawful : (k : Objects) (c : Context) → Valid k c.scopes → (e : Option Expr) → TypingOption (sorts_of c) e → NumbersFitOption e → LawfulOption (LawfulExpr k) (cast_option c e)
option_lawful k c v None h f = tt
option_lawful k c v (Some e) h f = expr_lawful k c v e h f

list_lawful : (k : Objects) (c : Context) → Valid k c.scopes → (es : List Expr) → All (TypingExpr (sorts_of c)) es → All NumbersFitExpr es → LawfulExprs k (cast_exprs c es)
list_lawful k c v [] h f = tt
list_lawful k c v (e ∷ es) h f =
    (expr_lawful k c v e (All-head (TypingExpr (sorts_of c)) e es h) (All-head NumbersFitExpr e es f), list_lawful k c v es (All-tail (TypingExpr (sorts_of c)) e es h) (All-tail NumbersFitExpr e es f))

-- ---- targets

all_lawful : (k : Objects) (fs : List TypedExpr) → LawfulExprs k fs → All (LawfulExpr k) fs
all_lawful k [] h i d l = absurd (omega arith)
all_lawful k (f ∷ fs) h zero d l = h.0
all_lawful k (f ∷ fs) h (suc i) d l = all_lawful k fs h.1 i d (omega arith)

target_as_lawful : (k : Objects) (s : Span) (fs : List TypedExpr) (o : Option Declared) → UsedAs (length fs) o → Means k o → LawfulExprs k fs → LawfulTarget k (LawfulExpr k) (target_as o fs s).to (target_as o fs s).ty
target_as_lawful k s fs None u m h = absurd u
target_as_lawful k s fs (Some (a_var v t)) u m h = ((m, refl), all_lawful k [] tt)
target_as_lawful k s fs (Some (an_array a t ds)) u m h = (is_element k a t ds (length fs) u.1 m, all_lawful k fs h)

pub target_lawful : (k : Objects) (c : Context) → Valid k c.scopes → (t : Target) → TypingTarget (sorts_of c) t → NumbersFitTarget t → LawfulTarget k (LawfulExpr k) (cast_target c t).to (cast_target c t).ty
target_lawful k c v t h f =
    target_as_lawful k t.at (cast_exprs c t.indices) (declared_as c t.name) (subst (λ m. UsedAs m (declared_as c t.name)) (cast_exprs_length c t.indices) (usable c t.name (length t.indices) h.0)) (v.means t.name)
    (list_lawful k c v t.indices h.1 f)
