-- Lists of arrays that are joined, and what they contain.
use Rattle.std.proofs.Common.{◌≡◌, ℕ, zero, suc, ◌⊎◌, List, [], ◌∷◌, Some, inl, inr, refl, subst, arith}
use Rattle.std.specs.Prelude.{slice_get}
use Rattle.std.specs.List.{Contains, flat_map}
use Rattle.std.proofs.lemmas.List.Elements.{Contains-append_left, Contains-append_right, Contains-append_cases}
use Rattle.std.proofs.lemmas.Option.{none-some}

-- an element of a list, by its place
pub record Stands {X : Type 0} (P : X → Type 0) (xs : List X) : Type 0 where
  pub place : ℕ
  pub item : X
  pub is : slice_get xs place ≡ Some item
  pub has : P item

module _ {X : Type 0} (f : X → List ℕ) (a : ℕ) where
  later : (x : X) (xs : List X) → Stands (λ y. Contains (f y) a) xs → Stands (λ y. Contains (f y) a) (x ∷ xs)
  later x xs s = record { place = suc s.place; item = s.item; is = s.is; has = s.has }

  -- what a joined list contains, some list of it contains
  pub stands_of : (xs : List X) → Contains (flat_map f xs) a → Stands (λ y. Contains (f y) a) xs
  stands_of [] c = absurd (let l = c.1 in omega arith)
  stands_of (x ∷ xs) c = by (λ h. stands_of xs h) (Contains-append_cases (f x) (flat_map f xs) a c)
    where
      by : (Contains (flat_map f xs) a → Stands (λ y. Contains (f y) a) xs) → Contains (f x) a ⊎ Contains (flat_map f xs) a → Stands (λ y. Contains (f y) a) (x ∷ xs)
      by rest (inl h) = record { place = 0; item = x; is = refl; has = h }
      by rest (inr h) = later x xs (rest h)

  pub contains_of : (xs : List X) (i : ℕ) (x : X) → slice_get xs i ≡ Some x → Contains (f x) a → Contains (flat_map f xs) a
  contains_of [] i x e c = absurd (none-some x e)
  contains_of (y ∷ xs) zero x e c =
      let same : x ≡ y = cc in
      Contains-append_left (f y) (flat_map f xs) a (subst (λ u. Contains (f u) a) same c)
  contains_of (y ∷ xs) (suc i) x e c = Contains-append_right (f y) (flat_map f xs) a (contains_of xs i x e c)
