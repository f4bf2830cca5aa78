-- Sets of the names that have been read.
use Rattle.std.proofs.Common.{◌≡◌, ◌≢◌, ℕ, ◌+◌, ◌<◌, ◌==◌, ◌||◌, Bool, true, false, not, cond, IsTrue, ◌↔◌, List, [], ◌∷◌, ◌++◌, length, get_or, take, refl, sym, ap, subst, ◌∙◌, arith}
use Rattle.std.specs.Bool.{Decides}
use Rattle.std.specs.List.{AllPairs, Any, list_any}
use Rattle.std.proofs.lemmas.Bool.{both_ways, not-true, not-false, or_left, or_right, or_from}
use Rattle.std.proofs.lemmas.Bool.Decides.{Decides-eqb}
use Rattle.std.proofs.lemmas.Slice.Eq.{slice_eq-Decides}
use Rattle.std.proofs.lemmas.List.{take_more, get_or-take, length-take-le}
use Rattle.std.proofs.lemmas.List.Folds.{Any-from_list_any, list_any-from_Any, list_any_more}
use Rattle.std.proofs.lemmas.List.Quantifiers.{all_pairs_push}
use Rattle.net_check.proofs.MarkLemmas.{default, no-true}
use Rattle.std.specs.HashSet.{HashSet, contains}
use Rattle.std.specs.Cmp.Lexicographic.{pointwise}

-- the set has the names that were read, no two of which are equal
pub record Knows {S : Type 0} (known : HashSet (List ℕ) S) (names : List (List ℕ)) : Type 0 where
  pub has : (q : List ℕ) → contains (pointwise ◌==◌) known q ≡ list_any (pointwise ◌==◌ q) names
  pub apart : AllPairs (λ x y. x ≢ y) names

same : (xs ys : List ℕ) → Decides (pointwise ◌==◌ xs ys) (xs ≡ ys)
same xs ys = slice_eq-Decides Decides-eqb xs ys (pointwise ◌==◌ xs ys) refl

pub knows_none : {S : Type 0} (known : HashSet (List ℕ) S) → known.keys ≡ [] → Knows known []
knows_none known e = record {
  has = λ q. ap (λ ks. list_any (pointwise ◌==◌ q) ks) e;
  apart = λ i j d l m. absurd (omega arith);
}

pub knows_more : {S : Type 0} (known after : HashSet (List ℕ) S) (names : List (List ℕ)) (i : ℕ) (x : List ℕ) → i < length names → x ≡ get_or names i x
    → Knows known (take i names) → contains (pointwise ◌==◌) known x ≡ false → ((q : List ℕ) → contains (pointwise ◌==◌) after q ≡ cond (pointwise ◌==◌ x q) true (contains (pointwise ◌==◌) known q))
    → Knows after (take (i + 1) names)
knows_more known after names i x l e k f u = record {
  has = λ q. (let m = list_any_more (pointwise ◌==◌ q) names i x l in
      let a : list_any (pointwise ◌==◌ q) (take (i + 1) names) ≡ (list_any (pointwise ◌==◌ q) (take i names) || pointwise ◌==◌ q x) = m ∙ ap (λ y. list_any (pointwise ◌==◌ q) (take i names) || pointwise ◌==◌ q y) (sym e) in
      u q ∙ flip q (pointwise ◌==◌ x q) refl (pointwise ◌==◌ q x) refl (contains (pointwise ◌==◌) known q) (list_any (pointwise ◌==◌ q) (take i names)) (k.has q) ∙ sym a);
  apart = (let t : take (i + 1) names ≡ take i names ++ x ∷ [] = take_more names i x l ∙ ap (λ y. take i names ++ y ∷ []) (sym e) in
      let P : List (List ℕ) → Type 0 = AllPairs (λ a b. a ≢ b) in
      subst P (sym t) (all_pairs_push (λ a b. a ≢ b) (take i names) x k.apart (λ j d h g. no j d h g)));
}
  where
    flip : (q : List ℕ) (a : Bool) → pointwise ◌==◌ x q ≡ a → (b : Bool) → pointwise ◌==◌ q x ≡ b → (h m : Bool) → h ≡ m → cond a true h ≡ (m || b)
    flip q true a true b h m e' = sym (or_right m true refl)
    flip q true a false b h m e' = absurd (both_ways _ b ((same q x).1 (sym ((same x q).0 a))))
    flip q false a true b h m e' = absurd (both_ways _ a ((same x q).1 (sym ((same q x).0 b))))
    flip q false a false b true m e' = sym (or_left m false (sym e'))
    flip q false a false b false m e' = sym (or_from m false (sym e') refl)

    no : (j : ℕ) (d : List ℕ) → j < length (take i names) → get_or (take i names) j d ≡ x → ⊥
    no j d h g =
        let a : list_any (pointwise ◌==◌ x) (take i names) ≡ true = list_any-from_Any (pointwise ◌==◌ x) (take i names) (j, x, h, default (take i names) j x d h ∙ g, (same x x).1 refl) in
        both_ways _ f (k.has x ∙ a)

pub knows_twice : {S : Type 0} (known : HashSet (List ℕ) S) (names : List (List ℕ)) (i : ℕ) (x : List ℕ) → i < length names → x ≡ get_or names i x
    → Knows known (take i names) → contains (pointwise ◌==◌) known x ≡ true → AllPairs (λ a b. a ≢ b) names → ⊥
knows_twice known names i x l e k t p = by (Any-from_list_any (pointwise ◌==◌ x) (take i names) (sym (k.has x) ∙ t))
  where
    by : Any (λ y. pointwise ◌==◌ x y ≡ true) (take i names) → ⊥
    by (j, y, h, g, s) =
        let len : length (take i names) ≡ i = length-take-le i names (omega arith) in
        let b : j < i = omega arith in
        let a : get_or names j y ≡ y = sym (get_or-take i names j y b) ∙ g in
        p j i y b l (a ∙ sym ((same x y).0 s) ∙ e ∙ default names i x y l)

pub distinct_step : {S : Type 0} (known after : HashSet (List ℕ) S) (names : List (List ℕ)) (i : ℕ) (x y : List ℕ) (b : Bool) → i < length names → y ≡ get_or names i y → x ≡ y
    → Knows known (take i names) → b ≡ not (contains (pointwise ◌==◌) known x) → b ≡ true
    → ((q : List ℕ) → contains (pointwise ◌==◌) after q ≡ cond (pointwise ◌==◌ x q) true (contains (pointwise ◌==◌) known q)) → Knows after (take (i + 1) names)
distinct_step known after names i x y b l e d k n t u =
    knows_more known after names i x l (d ∙ e ∙ default names i y x l) k (not-true _ (sym n ∙ t)) u

pub distinct_no : {S : Type 0} (known : HashSet (List ℕ) S) (names : List (List ℕ)) (i : ℕ) (x y : List ℕ) (b : Bool) → i < length names → y ≡ get_or names i y → x ≡ y
    → Knows known (take i names) → b ≡ not (contains (pointwise ◌==◌) known x) → b ≡ false → IsTrue false ↔ AllPairs (λ m n. m ≢ n) names
distinct_no known names i x y b l e d k n t =
    no-true _ (knows_twice known names i x l (d ∙ e ∙ default names i y x l) k (not-false _ (sym n ∙ t)))
