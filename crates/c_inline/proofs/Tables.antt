-- Tables that are made helper by helper, each entry from those before: an entry is that of its helper behind the helpers before it.
use Rattle.std.proofs.Common.{◌≡◌, ℕ, zero, suc, ◌+◌, ◌<◌, ◌≤◌, List, [], ◌∷◌, ◌++◌, length, take, refl, sym, ◌∙◌, ap, subst, arith, length-append, Some, None}
use Rattle.std.specs.Prelude.{slice_get}
use Rattle.std.proofs.lemmas.Option.{slice_get_within, slice_get_past}
use Rattle.c_ast.specs.declared.program.TypedHelper.{TypedHelper}
use Rattle.c_meaning.proofs.LawfulExpressions.{get_last}
use Rattle.c_calls.specs.Inlined.{writing, writings}
use Rattle.c_inline.specs.Making.{AllNumbers, HelperNumbers, writings_of}
use Rattle.c_inline.proofs.Weights.{helper_weight, weights, weights_of}

pub same_some : {A : Type 0} (x y : A) → Some x ≡ Some y → x ≡ y
same_some x y e = cc

get_first : {A : Type 0} (xs ys : List A) (i : ℕ) → i < length xs → slice_get (xs ++ ys) i ≡ slice_get xs i
get_first [] ys i h = absurd (omega (arith, h))
get_first (x ∷ xs) ys zero h = refl
get_first (x ∷ xs) ys (suc i) h = get_first xs ys i (omega (arith, h))

none_past : {A : Type 0} (xs : List A) (i : ℕ) → slice_get xs i ≡ None → length xs ≤ i
none_past [] i e = omega arith
none_past (x ∷ xs) zero e = absurd (cc)
none_past (x ∷ xs) (suc i) e = omega (arith, none_past xs i e)

-- a table by its step, and how it is made
module _ {A : Type 0} (step : List A → TypedHelper → A) (table : List A → List TypedHelper → List A) (end : (ps : List A) → table ps [] ≡ ps) (more : (ps : List A) (h : TypedHelper) (hs : List TypedHelper) → table ps (h ∷ hs) ≡ table (ps ++ step ps h ∷ []) hs) where
  kept : (ps : List A) (hs : List TypedHelper) (i : ℕ) → i < length ps → slice_get (table ps hs) i ≡ slice_get ps i
  kept ps [] i lt = ap (λ l. slice_get l i) (end ps)
  kept ps (h ∷ hs) i lt = ap (λ l. slice_get l i) (more ps h hs) ∙ kept (ps ++ step ps h ∷ []) hs i (omega (arith, length-append ps (step ps h ∷ []), lt)) ∙ get_first ps (step ps h ∷ []) i lt

  pub entry : (ps : List A) (hs : List TypedHelper) (i : ℕ) (h : TypedHelper) → slice_get hs i ≡ Some h → slice_get (table ps hs) (length ps + i) ≡ Some (step (table ps (take i hs)) h)
  entry ps [] i h is = absurd (omega (arith, slice_get_within [] i h is))
  entry ps (g ∷ hs) zero h is =
      let next = ps ++ step ps g ∷ [] in
      let e : length ps + 0 ≡ length ps = omega arith in
      ap (slice_get (table ps (g ∷ hs))) e ∙ ap (λ l. slice_get l (length ps)) (more ps g hs) ∙ kept next hs (length ps) (omega (arith, length-append ps (step ps g ∷ []))) ∙ get_last ps (step ps g)
      ∙ ap (λ x. Some (step ps x)) (same_some g h is) ∙ ap (λ l. Some (step l h)) (sym (end ps))
  entry ps (g ∷ hs) (suc i) h is =
      let next = ps ++ step ps g ∷ [] in
      let e : length ps + suc i ≡ length next + i = omega (arith, length-append ps (step ps g ∷ [])) in
      ap (λ l. slice_get l (length ps + suc i)) (more ps g hs) ∙ ap (slice_get (table next hs)) e ∙ entry next hs i h is ∙ ap (λ l. Some (step l h)) (sym (more ps g (take i hs)))

  long : (ps : List A) (hs : List TypedHelper) → length (table ps hs) ≡ length ps + length hs
  long ps [] = let e : length ps + 0 ≡ length ps = omega arith in ap length (end ps) ∙ sym e
  long ps (h ∷ hs) = ap length (more ps h hs) ∙ long (ps ++ step ps h ∷ []) hs ∙ (let e : length (ps ++ step ps h ∷ []) + length hs ≡ length ps + length (h ∷ hs) = omega (arith, length-append ps (step ps h ∷ [])) in e)

  pub no_entry : (hs : List TypedHelper) (i : ℕ) → slice_get hs i ≡ None → slice_get (table [] hs) i ≡ None
  no_entry hs i e = slice_get_past (table [] hs) i (omega (arith, long [] hs, none_past hs i e))

first_at : (i : ℕ) → i ≡ 0 + i
first_at i = omega arith

pub writing_at : (hs : List TypedHelper) (i : ℕ) (h : TypedHelper) → slice_get hs i ≡ Some h → slice_get (writings_of hs) i ≡ Some (writing (writings_of (take i hs)) h)
writing_at hs i h is = ap (slice_get (writings_of hs)) (first_at i) ∙ entry writing writings (λ ps. refl) (λ ps g l. refl) [] hs i h is

pub no_writing : (hs : List TypedHelper) (i : ℕ) → slice_get hs i ≡ None → slice_get (writings_of hs) i ≡ None
no_writing hs i e = no_entry writing writings (λ ps. refl) (λ ps g l. refl) hs i e

pub weight_of : (hs : List TypedHelper) (i : ℕ) (h : TypedHelper) → slice_get hs i ≡ Some h → slice_get (weights_of hs) i ≡ Some (helper_weight (weights_of (take i hs)) h)
weight_of hs i h is = ap (slice_get (weights_of hs)) (first_at i) ∙ entry helper_weight weights (λ ps. refl) (λ ps g l. refl) [] hs i h is

-- ---- the first of several helpers

pub get_taken : (hs : List TypedHelper) (i j : ℕ) (h : TypedHelper) → slice_get (take j hs) i ≡ Some h → (slice_get hs i ≡ Some h) × (take i (take j hs) ≡ take i hs)
get_taken [] i zero h is = absurd (omega (arith, slice_get_within [] i h is))
get_taken [] i (suc j) h is = absurd (omega (arith, slice_get_within [] i h is))
get_taken (g ∷ hs) i zero h is = absurd (omega (arith, slice_get_within [] i h is))
get_taken (g ∷ hs) zero (suc j) h is = (is, refl)
get_taken (g ∷ hs) (suc i) (suc j) h is = let r = get_taken hs i j h is in (r.0, ap (λ l. g ∷ l) r.1)

pub below_numbers : (hs : List TypedHelper) (j : ℕ) → AllNumbers hs → AllNumbers (take j hs)
below_numbers hs j all i h is = let r = get_taken hs i j h is in subst (λ l. HelperNumbers l h) (sym r.1) (all i h r.0)
