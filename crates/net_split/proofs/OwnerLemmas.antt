-- Owners, and lists of them.
use Rattle.std.proofs.Common.{◌≡◌, ℕ, zero, suc, ◌+◌, ◌*◌, ◌<◌, List, [], ◌∷◌, ◌++◌, map, ap, ◌∙◌, sym, subst, arith}
use Rattle.std.specs.List.{range_with_len}
use Rattle.std.proofs.Math.Nat.{div-lt_iff_lt-mul, mul-lt-mul_of_pos_left, mul_comm}
use Rattle.net_split.specs.Owners.{owner}

-- a unit's owner is one of the workers
pub owner_below : (n w u : ℕ) → u < n → 0 < w → owner n w u < w
owner_below n w u within some =
    (div-lt_iff_lt-mul (omega (arith, within))).1 (subst (λ x. x < w * n) (mul_comm w u) (mul-lt-mul_of_pos_left within some))

-- one number more at the end
last_of : (f : ℕ → ℕ) (a n : ℕ) → map f (range_with_len a (suc n)) ≡ map f (range_with_len a n) ++ f (a + n) ∷ []
last_of f a zero = ap (λ x. f x ∷ []) (omega arith)
last_of f a (suc n) = ap (λ xs. f a ∷ xs) (last_of f (a + 1) n ∙ ap (λ x. map f (range_with_len (a + 1) n) ++ f x ∷ []) (omega arith))

pub one_more_owner : (n w k : ℕ) → map (owner n w) (range_with_len 0 (k + 1)) ≡ map (owner n w) (range_with_len 0 k) ++ owner n w k ∷ []
one_more_owner n w k = ap (λ m. map (owner n w) (range_with_len 0 m)) up ∙ last_of (owner n w) 0 k ∙ ap (λ x. map (owner n w) (range_with_len 0 k) ++ owner n w x ∷ []) none
  where
    up : k + 1 ≡ suc k
    up = omega arith

    none : 0 + k ≡ k
    none = omega arith

pub pushed_owner : (xs ys : List ℕ) (n w k o : ℕ) → ys ≡ xs ++ o ∷ [] → xs ≡ map (owner n w) (range_with_len 0 k) → o ≡ owner n w k → ys ≡ map (owner n w) (range_with_len 0 (k + 1))
pushed_owner xs ys n w k o pushed were is = pushed ∙ ap (λ zs. zs ++ o ∷ []) were ∙ ap (λ x. map (owner n w) (range_with_len 0 k) ++ x ∷ []) is ∙ sym (one_more_owner n w k)
