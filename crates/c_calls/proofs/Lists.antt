-- Members of lists.
use Rattle.std.proofs.Common.{◌≡◌, ℕ, zero, suc, ◌<◌, List, [], ◌∷◌, length, refl, sym, arith, ◌⊎◌, inl, inr}
use Rattle.std.specs.Prelude.{Contains, slice_index_or}
use Rattle.std.proofs.lemmas.List.Elements.{Contains-append_right, Contains-append_cases}

pub no_member : {A : Type 0} (w : ℕ) → Contains [] w → A
no_member w c = absurd (let lt = c.1 in omega arith)

pub here : (v : ℕ) (vs : List ℕ) → Contains (v ∷ vs) v
here v vs = (0, (let e : 0 < length (v ∷ vs) = omega arith in e), refl)

pub there : (v : ℕ) (vs : List ℕ) (w : ℕ) → Contains vs w → Contains (v ∷ vs) w
there v vs w c = Contains-append_right (v ∷ []) vs w c

only : (v w : ℕ) → Contains (v ∷ []) w → w ≡ v
only v w c = one_at c.0 c.1 c.2
  where
    one_at : (i : ℕ) → i < length (v ∷ []) → slice_index_or (v ∷ []) i w ≡ w → w ≡ v
    one_at zero lt e = sym e
    one_at (suc i) lt e = absurd (omega arith)

pub member_cases : (v : ℕ) (vs : List ℕ) (w : ℕ) → Contains (v ∷ vs) w → (w ≡ v) ⊎ Contains vs w
member_cases v vs w c = by_cases (Contains-append_cases (v ∷ []) vs w c)
  where
    by_cases : Contains (v ∷ []) w ⊎ Contains vs w → (w ≡ v) ⊎ Contains vs w
    by_cases (inl x) = inl (only v w x)
    by_cases (inr x) = inr x
