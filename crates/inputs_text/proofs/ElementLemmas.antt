-- The elements of one array more.
use Rattle.std.proofs.Common.{◌≡◌, inl, inr, ℕ, ◌+◌, ◌<◌, ◌≤◌, List, [], ◌∷◌, ◌++◌, length, get_or, sym, ap, ◌∙◌, arith}
use Rattle.std.proofs.Math.Nat.{eq-or-lt_of_le}
use Rattle.std.proofs.Math.Seq.{get_or-append_seam}
use Rattle.std.proofs.lemmas.List.{get_or_append_left}

pub one_more : (xs : List (List ℕ)) (y : List ℕ) (n : ℕ) (of : ℕ → List ℕ) → length xs ≡ n → ((a : ℕ) → a < n → get_or xs a [] ≡ of a) → y ≡ of n
    → (a : ℕ) → a < n + 1 → get_or (xs ++ y ∷ []) a [] ≡ of a
one_more xs y n of long each is a within =
    let most : a ≤ n = omega (arith, within) in
    elim (eq-or-lt_of_le most) [
      | inl last ↦
          let at : a ≡ length xs = last ∙ sym long in
          ap (λ k. get_or (xs ++ y ∷ []) k []) at ∙ get_or-append_seam xs y [] [] ∙ is ∙ ap of (sym last)
      | inr before ↦
          let there : a < length xs = omega (arith, before, long) in
          get_or_append_left xs (y ∷ []) [] a there ∙ each a before
    ]
