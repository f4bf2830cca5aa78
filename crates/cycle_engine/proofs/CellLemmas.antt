-- Rows of lists.
use Rattle.std.proofs.Common.{◌≡◌, ◌≢◌, ◌∙◌, ℕ, zero, suc, ◌<◌, ◌++◌, List, [], ◌∷◌, length, get_or, set, refl, ap, arith}
use Rattle.std.proofs.lemmas.List.{map-set, get_or-set_other}
use Rattle.cycle_engine.specs.private.Stacks.{Stacked}
use Rattle.cycle_engine.specs.private.Lists.{HasNone, lists_of}

-- the list of a cell
pub list_at : (xs : List (Stacked ℕ)) (i : ℕ) (v : Stacked ℕ) → i < length xs → v ≡ get_or xs i v → v.items ≡ get_or (lists_of xs) i []
list_at [] i v l e = absurd (omega arith)
list_at (x ∷ xs) zero v l e = ap (λ (y : Stacked ℕ). y.items) e
list_at (x ∷ xs) (suc i) v l e = list_at xs i v (omega arith) e

-- a list is changed, and no other
pub others_kept : (xs : List (Stacked ℕ)) (i : ℕ) (v : Stacked ℕ) (k : ℕ) → k ≢ i → get_or (lists_of (set xs i v)) k [] ≡ get_or (lists_of xs) k []
others_kept xs i v k n = ap (λ ys. get_or ys k []) (map-set (λ (v : Stacked ℕ). v.items) xs i v) ∙ get_or-set_other (lists_of xs) i k v.items [] n

-- an empty list more
pub none_more : (xs : List (Stacked ℕ)) (v : Stacked ℕ) → v.items ≡ [] → HasNone (lists_of xs) → HasNone (lists_of (xs ++ v ∷ []))
none_more [] v e h zero = e
none_more [] v e h (suc k) = refl
none_more (x ∷ xs) v e h zero = h 0
none_more (x ∷ xs) v e h (suc k) = none_more xs v e (λ i. h (suc i)) k
