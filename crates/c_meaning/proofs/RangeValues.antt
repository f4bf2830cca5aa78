-- The value of a lawful expression in a store that fits lies in the range of its type.
use Rattle.std.proofs.Common.{◌≡◌, ℕ, zero, suc, ◌+◌, List, [], ◌∷◌, get_or, Option, Some, None, sym, ◌∙◌, subst}
use Rattle.std.proofs.lemmas.List.Elements.{All-head, All-tail}
use Rattle.std.specs.Prelude.{Bool, true, false, not, ℤ, pos, All, slice_get}
use Rattle.el_base.specs.declared.ty.Ty.{Ty}
use Rattle.el_base.specs.declared.ty.Ty.TheVariants.{I32}
use Rattle.el_base.specs.declared.span.Span.{Span}
use Rattle.el_base.specs.Numbers.{IsInRange}
use Rattle.c_ast.specs.declared.tree.Binary.{Binary}
use Rattle.c_ast.specs.declared.tree.Binary.TheVariants as op
use Rattle.c_ast.specs.declared.typed.ArrayOf.{ArrayOf}
use Rattle.c_ast.specs.declared.typed.TypedExprKind.{TypedExprKind, end_of-TypedExpr, more_of-TypedExpr}
use Rattle.c_ast.specs.declared.typed.TypedExprKind as tree
use Rattle.c_meaning.specs.Types.{conv}
use Rattle.c_meaning.specs.Operators.{is_zero, unary_value, binary_value}
use Rattle.c_meaning.specs.Stores.{Store, Objects, IsSetIn, AreSetIn, AreArraysOf, IsFitting, place, read_var}
use Rattle.c_meaning.specs.Expressions.{Val, undefined_value, value, Vals, undefined_values, values, Meaning, after_turns, on_one, on_two, later, as_truth, one_of, chosen, always, binary_meaning, all_values, element_at, element, kind_meaning, row_meanings}
use Rattle.c_meaning.specs.Lawful.{AreOperands, IsElement, LawfulKind}
use Rattle.c_meaning.specs.Ranges.{ValuesFit}
use Rattle.c_meaning.proofs.RangeOperators.{OptionIn, PatternLaws, conv_in, unary_in, binary_in, sides_in}

-- what there is of a value lies in a type
abbrev pub ValIn : Ty → Val → Type 0
ValIn t (undefined_value p) = Unit {0}
ValIn t (value z n) = IsInRange t z

abbrev pub MeansIn : Objects → Ty → Meaning → Type 0
MeansIn k t m = (s : Store) → IsFitting k s → ValIn t (m s)

after_in : (t : Ty) (at : Span) (n : ℕ) (o : Option ℤ) → OptionIn t o → ValIn t (after_turns at n o)
after_in t at n None h = tt
after_in t at n (Some z) h = h

one_in : (t u : Ty) (at : Span) (f : ℤ → Option ℤ) (v : Val) → ((x : ℤ) → IsInRange u x → OptionIn t (f x)) → ValIn u v → ValIn t (on_one at f v)
one_in t u at f (undefined_value p) h i = tt
one_in t u at f (value x n) h i = after_in t at n (f x) (h x i)

two_in : (t a : Ty) (at : Span) (f : ℤ → ℤ → Option ℤ) (v w : Val) → ((x y : ℤ) → IsInRange a x → OptionIn t (f x y)) → ValIn a v → ValIn t (on_two at f v w)
two_in t a at f (undefined_value p) w h i = tt
two_in t a at f (value x n) (undefined_value p) h i = tt
two_in t a at f (value x n) (value y m) h i = after_in t at (n + m) (f x y) (h x y i)

later_in : (t : Ty) (n : ℕ) (v : Val) → ValIn t v → ValIn t (later n v)
later_in t n (undefined_value p) h = tt
later_in t n (value x m) h = h

choice_in : (t : Ty) (b : Bool) (m n : Meaning) (s : Store) → ValIn t (m s) → ValIn t (n s) → ValIn t (one_of b m n s)
choice_in t true m n s g h = g
choice_in t false m n s g h = h

chosen_in : (t : Ty) (v : Val) (m n : Meaning) (s : Store) → ValIn t (m s) → ValIn t (n s) → ValIn t (chosen v m n s)
chosen_in t (undefined_value p) m n s g h = tt
chosen_in t (value x u) m n s g h = later_in t (u + 1) (one_of (is_zero x) n m s) (choice_in t (is_zero x) n m s h g)

-- ---- what a store gives

set_in : (ts : List Ty) (xs : List (Option ℤ)) (v : ℕ) (t : Ty) → AreSetIn ts xs → slice_get ts v ≡ Some t → IsSetIn t (get_or xs v None)
set_in [] [] v t h e = cc
set_in (u ∷ ts) (x ∷ xs) zero t h e = let is : u ≡ t = cc in subst (λ w. IsSetIn w x) is h.0
set_in (u ∷ ts) (x ∷ xs) (suc v) t h e = set_in ts xs v t h.1 e
set_in [] (x ∷ xs) v t h e = absurd h
set_in (u ∷ ts) [] v t h e = absurd h

set_option : (t : Ty) (o : Option ℤ) → IsSetIn t o → OptionIn t o
set_option t None h = tt
set_option t (Some z) h = h

got_in : (t : Ty) (zs : List ℤ) (i : ℕ) → All (IsInRange t) zs → OptionIn t (slice_get zs i)
got_in t [] i h = tt
got_in t (z ∷ zs) zero h = All-head (IsInRange t) z zs h
got_in t (z ∷ zs) (suc i) h = got_in t zs i (All-tail (IsInRange t) z zs h)

elements_in : (arrays : List ArrayOf) (zss : List (List ℤ)) (a : ℕ) (x : ArrayOf) → AreArraysOf arrays zss → slice_get arrays a ≡ Some x → All (IsInRange x.ty) (get_or zss a [])
elements_in [] [] a x h e = cc
elements_in (y ∷ ys) (zs ∷ zss) zero x h e = let is : y ≡ x = cc in subst (λ (w : ArrayOf). All (IsInRange w.ty) zs) is h.1
elements_in (y ∷ ys) (zs ∷ zss) (suc a) x h e = elements_in ys zss a x h.2 e
elements_in [] (zs ∷ zss) a x h e = absurd h
elements_in (y ∷ ys) [] a x h e = absurd h

read_in : (s : Store) (a : ℕ) (o : Option ℕ) (t : Ty) → All (IsInRange t) (get_or s.arrays a []) → OptionIn t (element_at s a o)
read_in s a None t h = tt
read_in s a (Some i) t h = got_in t (get_or s.arrays a []) i h

element_in : (k : Objects) (at : Span) (s : Store) (a n : ℕ) (t : Ty) (vs : Vals) → IsFitting k s → IsElement k a n t → ValIn t (element k at s a vs)
element_in k at s a n t (undefined_values p) f i = tt
element_in k at s a n t (values is u) f i =
    after_in t at u (element_at s a (place k.arrays a is))
    (read_in s a (place k.arrays a is) t (subst (λ w. All (IsInRange w) (get_or s.arrays a [])) i.2 (elements_in k.arrays s.arrays a i.0 f.arrays i.1)))

-- ---- whole trees

module _ (laws : PatternLaws) (k : Objects) where
  truth_val : (t : Ty) (v : Val) → t ≡ I32 → ValIn t (as_truth v)
  truth_val t (undefined_value p) e = tt
  truth_val t (value x n) e = sides_in laws t (not (is_zero x)) e

  strict_in : (o : Binary) (t a b : Ty) (at : Span) (v w : Val) → AreOperands o a b t → ValIn a v → ValIn t (on_two at (binary_value k.profile o t) v w)
  strict_in o t a b at v w h i = two_in t a at (binary_value k.profile o t) v w (λ x y r. binary_in laws k.profile o t a b x y h.0 h.2 r) i

  binary_val : (o : Binary) (t a b : Ty) (at : Span) (m n : Meaning) (s : Store) → AreOperands o a b t → ValIn a (m s) → ValIn t (binary_meaning k.profile o t at m n s)
  binary_val op.Both t a b at m n s h i = chosen_in t (m s) (λ r. as_truth (n r)) (always (pos 0)) s (truth_val t (n s) h.2) (sides_in laws t false h.2)
  binary_val op.Either t a b at m n s h i = chosen_in t (m s) (always (pos 1)) (λ r. as_truth (n r)) s (sides_in laws t true h.2) (truth_val t (n s) h.2)
  binary_val o t a b at m n s h i = strict_in o t a b at (m s) (n s) h i

  pub kind_in : (e : TypedExprKind) (t : Ty) (at : Span) → LawfulKind k e t → MeansIn k t (kind_meaning k e t at)
  kind_in (tree.Number n) t at h s f = h
  kind_in (tree.Var v) t at h s f = after_in t at 0 (read_var s v) (set_option t (get_or s.vars v None) (set_in k.vars s.vars v t f.vars h))
  kind_in (tree.Element' a n row) t at h s f = element_in k at s a _ t (all_values (row_meanings k row) s) f h.0
  kind_in (tree.Unary' o b (more_of-TypedExpr e u at2 end_of-TypedExpr)) t at h s f =
      one_in t u at (unary_value k.profile o t) (kind_meaning k e u at2 s) (λ x r. unary_in laws k.profile o t u x h.1 r) (kind_in e u at2 h.2 s f)
  kind_in (tree.Cast' implied b (more_of-TypedExpr e u at2 end_of-TypedExpr)) t at h s f =
      one_in t u at (λ x. Some (conv t x)) (kind_meaning k e u at2 s) (λ x r. conv_in laws t x) (kind_in e u at2 h.1 s f)
  kind_in (tree.Binary' o b (more_of-TypedExpr e u at2 end_of-TypedExpr) b3 (more_of-TypedExpr e3 u3 at3 end_of-TypedExpr)) t at h s f =
      binary_val o t u u3 at (kind_meaning k e u at2) (kind_meaning k e3 u3 at3) s h.0 (kind_in e u at2 h.1 s f)
  kind_in (tree.Choose' b (more_of-TypedExpr e u at2 end_of-TypedExpr) b3 (more_of-TypedExpr e3 u3 at3 end_of-TypedExpr) b4 (more_of-TypedExpr e4 u4 at4 end_of-TypedExpr)) t at h s f =
      let sides = h.0 in
      chosen_in t (kind_meaning k e u at2 s) (kind_meaning k e3 u3 at3) (kind_meaning k e4 u4 at4) s
      (subst (λ w. ValIn w (kind_meaning k e3 u3 at3 s)) (sides.0 ∙ sym sides.2) (kind_in e3 u3 at3 h.2 s f))
      (subst (λ w. ValIn w (kind_meaning k e4 u4 at4 s)) (sides.1 ∙ sym sides.2) (kind_in e4 u4 at4 h.3 s f))

in_of : (t : Ty) (v : Val) (z : ℤ) (n : ℕ) → v ≡ value z n → ValIn t v → IsInRange t z
in_of t v z n e h = subst (ValIn t) e h

pub values_fit : PatternLaws → ValuesFit
values_fit laws k s e z t f h is = in_of e.ty (kind_meaning k e.kind e.ty e.at s) z t is (kind_in laws k e.kind e.ty e.at h s f)
