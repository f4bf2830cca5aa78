-- An expression means the same in two stores that agree on what it reads.
use Rattle.std.proofs.Common.{◌≡◌, ℕ, zero, suc, ◌+◌, ◌<◌, List, [], ◌∷◌, ◌++◌, length, get_or, set, Option, Some, None, refl, sym, ◌∙◌, ap, subst, arith, inl, inr}
use Rattle.std.proofs.lemmas.List.{get_or-set_other}
use Rattle.std.proofs.lemmas.List.Elements.{Contains-append_left, Contains-append_right, Contains-append_cases}
use Rattle.std.specs.Prelude.{Bool, true, false, Contains, ◌⊎◌, slice_get, ℤ, pos}
use mathlib.Core.Former.{Count}
use Rattle.el_base.specs.declared.ty.Ty.{Ty}
use Rattle.el_base.specs.declared.span.Span.{Span}
use Rattle.c_ast.specs.declared.tree.Binary.{Binary}
use Rattle.c_ast.specs.declared.tree.Binary.TheVariants as op
use Rattle.c_ast.specs.declared.typed.TypedExprKind.{TypedExprKind, Row_of-TypedExpr, end_of-TypedExpr, more_of-TypedExpr}
use Rattle.c_ast.specs.declared.typed.TypedExprKind as tree
use Rattle.c_meaning.specs.declared.profile.Profile.{Profile}
use Rattle.c_meaning.specs.Types.{conv}
use Rattle.c_meaning.specs.Operators.{is_zero, unary_value, binary_value}
use Rattle.c_meaning.specs.Stores.{Store, Objects, set_var, unset_var, place}
use Rattle.c_meaning.specs.Expressions.{Val, undefined_value, value, Vals, undefined_values, values, Meaning, after_turns, on_one, on_two, later, as_truth, one_of, chosen, always, with_first, all_values, binary_meaning, element_at, element, kind_meaning, row_meanings}
use Rattle.c_meaning.specs.Lawful.{LawfulKind, LawfulRow, ReadsNone, SidesReadNone}
use Rattle.c_meaning.specs.Reads.{vars_read, vars_read_row, AgreeOn, ReadsItsVariables, OtherVariablesAreFree, UnsetVariablesAreFree, ReadsListedVariables}

left_agrees : (vs ws : List ℕ) (s r : Store) → AgreeOn (vs ++ ws) s r → AgreeOn vs s r
left_agrees vs ws s r h = record { vars = λ v c. h.vars v (Contains-append_left vs ws v c); arrays = h.arrays }

right_agrees : (vs ws : List ℕ) (s r : Store) → AgreeOn (vs ++ ws) s r → AgreeOn ws s r
right_agrees vs ws s r h = record { vars = λ v c. h.vars v (Contains-append_right vs ws v c); arrays = h.arrays }

alone : (v : ℕ) → Contains (v ∷ []) v
alone v = (0, omega arith, refl)

module _ (s r : Store) where
  one_agrees : (t : Bool) (a b : Meaning) → a s ≡ a r → b s ≡ b r → one_of t a b s ≡ one_of t a b r
  one_agrees true a b g h = g
  one_agrees false a b g h = h

  chosen_agrees : (v : Val) (a b : Meaning) → a s ≡ a r → b s ≡ b r → chosen v a b s ≡ chosen v a b r
  chosen_agrees (undefined_value p) a b g h = refl
  chosen_agrees (value x t) a b g h = ap (later (t + 1)) (one_agrees (is_zero x) b a h g)

  choice_agrees : (c a b : Meaning) → c s ≡ c r → a s ≡ a r → b s ≡ b r → chosen (c s) a b s ≡ chosen (c r) a b r
  choice_agrees c a b f g h = chosen_agrees (c s) a b g h ∙ ap (λ v. chosen v a b r) f

  two_agrees : (at : Span) (f : ℤ → ℤ → Option ℤ) (a b : Meaning) → a s ≡ a r → b s ≡ b r → on_two at f (a s) (b s) ≡ on_two at f (a r) (b r)
  two_agrees at f a b g h = ap (λ v. on_two at f v (b s)) g ∙ ap (λ v. on_two at f (a r) v) h

  binary_agrees : (p : Profile) (o : Binary) (t : Ty) (at : Span) (a b : Meaning) → a s ≡ a r → b s ≡ b r → binary_meaning p o t at a b s ≡ binary_meaning p o t at a b r
  binary_agrees p op.Both t at a b g h = choice_agrees a (λ x. as_truth (b x)) (always (pos 0)) g (ap as_truth h) refl
  binary_agrees p op.Either t at a b g h = choice_agrees a (always (pos 1)) (λ x. as_truth (b x)) g refl (ap as_truth h)
  binary_agrees p o t at a b g h = two_agrees at (binary_value p o t) a b g h

  -- the elements of a store are those of its arrays
  abbrev element_of : List (List ℤ) → ℕ → Option ℕ → Option ℤ
  element_of zss a None = None
  element_of zss a (Some at) = slice_get (get_or zss a []) at

  element_at_is : (x : Store) (a : ℕ) (o : Option ℕ) → element_at x a o ≡ element_of x.arrays a o
  element_at_is x a None = refl
  element_at_is x a (Some at) = refl

  element_agrees : (k : Objects) (at : Span) (a : ℕ) (vs : Vals) → s.arrays ≡ r.arrays → element k at s a vs ≡ element k at r a vs
  element_agrees k at a (undefined_values p) e = refl
  element_agrees k at a (values is t) e =
      let o = place k.arrays a is in
      ap (after_turns at t) (element_at_is s a o ∙ ap (λ zss. element_of zss a o) e ∙ sym (element_at_is r a o))

mutual
  kind_agrees : (k : Objects) (e : TypedExprKind) (t : Ty) (at : Span) (s r : Store) → AgreeOn (vars_read e) s r → kind_meaning k e t at s ≡ kind_meaning k e t at r
  kind_agrees k (tree.Number n) t at s r h = refl
  kind_agrees k (tree.Var v) t at s r h = ap (after_turns at 0) (h.vars v (alone v))
  kind_agrees k (tree.Element' a n row) t at s r h =
      element_agrees s r k at a (all_values (row_meanings k row) s) h.arrays ∙ ap (element k at r a) (row_agrees k row s r h)
  kind_agrees k (tree.Unary' o b (more_of-TypedExpr e u at2 end_of-TypedExpr)) t at s r h = ap (on_one at (unary_value k.profile o t)) (kind_agrees k e u at2 s r h)
  kind_agrees k (tree.Cast' implied b (more_of-TypedExpr e u at2 end_of-TypedExpr)) t at s r h = ap (on_one at (λ x. Some (conv t x))) (kind_agrees k e u at2 s r h)
  kind_agrees k (tree.Binary' o b (more_of-TypedExpr e u at2 end_of-TypedExpr) b3 (more_of-TypedExpr e3 u3 at3 end_of-TypedExpr)) t at s r h =
      binary_agrees s r k.profile o t at (kind_meaning k e u at2) (kind_meaning k e3 u3 at3)
      (kind_agrees k e u at2 s r (left_agrees (vars_read e) (vars_read e3) s r h)) (kind_agrees k e3 u3 at3 s r (right_agrees (vars_read e) (vars_read e3) s r h))
  kind_agrees k (tree.Choose' b (more_of-TypedExpr e u at2 end_of-TypedExpr) b3 (more_of-TypedExpr e3 u3 at3 end_of-TypedExpr) b4 (more_of-TypedExpr e4 u4 at4 end_of-TypedExpr)) t at s r h =
      let rest = right_agrees (vars_read e) (vars_read e3 ++ vars_read e4) s r h in
      choice_agrees s r (kind_meaning k e u at2) (kind_meaning k e3 u3 at3) (kind_meaning k e4 u4 at4)
      (kind_agrees k e u at2 s r (left_agrees (vars_read e) (vars_read e3 ++ vars_read e4) s r h))
      (kind_agrees k e3 u3 at3 s r (left_agrees (vars_read e3) (vars_read e4) s r rest)) (kind_agrees k e4 u4 at4 s r (right_agrees (vars_read e3) (vars_read e4) s r rest))

  row_agrees : (k : Objects) {n : Count} (row : Row_of-TypedExpr n) (s r : Store) → AgreeOn (vars_read_row row) s r → all_values (row_meanings k row) s ≡ all_values (row_meanings k row) r
  row_agrees k end_of-TypedExpr s r h = refl
  row_agrees k (more_of-TypedExpr e u at row) s r h =
      let rest = all_values (row_meanings k row) in
      ap (λ v. with_first v (rest s)) (kind_agrees k e u at s r (left_agrees (vars_read e) (vars_read_row row) s r h))
      ∙ ap (with_first (kind_meaning k e u at r)) (row_agrees k row s r (right_agrees (vars_read e) (vars_read_row row) s r h))

pub agreeing : ReadsItsVariables
agreeing k e s r h = kind_agrees k e.kind e.ty e.at s r h

-- ---- one variable changes

changed : (vs : List ℕ) (s : Store) (v : ℕ) (x : Option ℤ) → ¬ (Contains vs v) → AgreeOn vs (record s { vars = set s.vars v x }) s
changed vs s v x n = record { vars = λ w c. get_or-set_other s.vars v w x None (λ e. n (subst (Contains vs) e c)); arrays = refl }

pub writing : OtherVariablesAreFree
writing k e s v z n = agreeing k e (set_var v z s) s (changed (vars_read e.kind) s v (Some z) n)

pub unsetting : UnsetVariablesAreFree
unsetting k e s v n = agreeing k e (unset_var v s) s (changed (vars_read e.kind) s v None n)

-- ---- a lawful expression reads what is listed

listed_at : {X : Type 0} (xs : List X) (v : ℕ) (x : X) → slice_get xs v ≡ Some x → v < length xs
listed_at [] v x e = cc
listed_at (y ∷ ys) zero x e = omega arith
listed_at (y ∷ ys) (suc v) x e = let l : v < length ys = listed_at ys v x e in omega arith

either_way : (xs ys : List ℕ) (v m : ℕ) → (Contains xs v → v < m) → (Contains ys v → v < m) → Contains (xs ++ ys) v → v < m
either_way xs ys v m f g c =
    let cases : Contains xs v ⊎ Contains ys v = Contains-append_cases xs ys v c in
    elim cases [ inl l ↦ f l | inr l ↦ g l ]

none_read : (v m : ℕ) → Contains [] v → v < m
none_read v m c = absurd (omega (arith, c.1))

one_read : (w v m : ℕ) → w < m → Contains (w ∷ []) v → v < m
one_read w v m l (zero, below, is) = subst (λ n. n < m) is l
one_read w v m l (suc i, below, is) = absurd (omega (arith, below))

mutual
  kind_listed : (k : Objects) (e : TypedExprKind) (t : Ty) (v : ℕ) → LawfulKind k e t → Contains (vars_read e) v → v < length k.vars
  kind_listed k (tree.Number n) t v h c = none_read v (length k.vars) c
  kind_listed k (tree.Var w) t v h c = one_read w v (length k.vars) (listed_at k.vars w t h) c
  kind_listed k (tree.Element' a n row) t v h c = row_listed k row v h.1 c
  kind_listed k (tree.Unary' o b (more_of-TypedExpr e u at2 end_of-TypedExpr)) t v h c = kind_listed k e u v h.2 c
  kind_listed k (tree.Cast' implied b (more_of-TypedExpr e u at2 end_of-TypedExpr)) t v h c = kind_listed k e u v h.1 c
  kind_listed k (tree.Binary' o b (more_of-TypedExpr e u at2 end_of-TypedExpr) b3 (more_of-TypedExpr e3 u3 at3 end_of-TypedExpr)) t v h c =
      either_way (vars_read e) (vars_read e3) v (length k.vars) (λ l. kind_listed k e u v h.1 l) (λ l. kind_listed k e3 u3 v h.2 l) c
  kind_listed k (tree.Choose' b (more_of-TypedExpr e u at2 end_of-TypedExpr) b3 (more_of-TypedExpr e3 u3 at3 end_of-TypedExpr) b4 (more_of-TypedExpr e4 u4 at4 end_of-TypedExpr)) t v h c =
      either_way (vars_read e) (vars_read e3 ++ vars_read e4) v (length k.vars) (λ l. kind_listed k e u v h.1 l)
      (λ l. either_way (vars_read e3) (vars_read e4) v (length k.vars) (λ m. kind_listed k e3 u3 v h.2 m) (λ m. kind_listed k e4 u4 v h.3 m) l) c

  row_listed : (k : Objects) {n : Count} (row : Row_of-TypedExpr n) (v : ℕ) → LawfulRow k row → Contains (vars_read_row row) v → v < length k.vars
  row_listed k end_of-TypedExpr v h c = none_read v (length k.vars) c
  row_listed k (more_of-TypedExpr e u at row) v h c = either_way (vars_read e) (vars_read_row row) v (length k.vars) (λ l. kind_listed k e u v h.0 l) (λ l. row_listed k row v h.1 l) c

pub listed : ReadsListedVariables
listed k e v h c = kind_listed k e.kind e.ty v h c

-- sides that read no array
pub sides_none : (b : Bool) (e e2 : TypedExprKind) → ReadsNone e → ReadsNone e2 → SidesReadNone b e e2
sides_none true e e2 h i = (h, i)
sides_none false e e2 h i = tt
