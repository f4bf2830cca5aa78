-- Lists that agree place by place.
use Rattle.std.proofs.Common.{◌≡◌, ℕ, zero, suc, ◌+◌, ◌<◌, ◌≤◌, ◌⊎◌, List, [], ◌∷◌, length, get_or, subst, ◌∙◌, inl, inr, arith}
use Rattle.std.proofs.lemmas.Bool.{cases_lt}
use Rattle.std.proofs.lemmas.List.{get_or_default}
use Rattle.std.specs.List.{AllZip}

module _ {A B : Type 0} (R : A → B → Type 0) where
  -- so far
  abbrev pub UpTo : ℕ → List A → List B → Type 0
  UpTo n xs ys = (k : ℕ) (d : A) (e : B) → k < n → R (get_or xs k d) (get_or ys k e)

  pub zip_all : (xs : List A) (ys : List B) → length xs ≡ length ys → UpTo (length xs) xs ys → AllZip R xs ys
  zip_all [] [] l h = tt
  zip_all [] (y ∷ ys) l h = absurd (omega arith)
  zip_all (x ∷ xs) [] l h = absurd (omega arith)
  zip_all (x ∷ xs) (y ∷ ys) l h = (h 0 x y (omega arith), zip_all xs ys (omega arith) (λ k d e m. h (suc k) d e (omega arith)))

  pub zip_at : (xs : List A) (ys : List B) (k : ℕ) (d : A) (e : B) → AllZip R xs ys → k < length xs → R (get_or xs k d) (get_or ys k e)
  zip_at [] ys k d e h l = absurd (omega arith)
  zip_at (x ∷ xs) [] k d e h l = absurd h
  zip_at (x ∷ xs) (y ∷ ys) zero d e h l = h.0
  zip_at (x ∷ xs) (y ∷ ys) (suc k) d e h l = zip_at xs ys k d e h.1 (omega arith)

  pub zip_more : (xs : List A) (ys : List B) (i : ℕ) (x : A) (y : B) → i < length xs → length xs ≡ length ys → UpTo i xs ys → x ≡ get_or xs i x → y ≡ get_or ys i y → R x y → UpTo (i + 1) xs ys
  zip_more xs ys i x y l long h a b r k d e m = by (cases_lt k i)
    where
      by : (k < i) ⊎ (i ≤ k) → R (get_or xs k d) (get_or ys k e)
      by (inl n) = h k d e n
      by (inr n) =
          let q : i ≡ k = omega arith in
          let s : x ≡ get_or xs i d = a ∙ get_or_default xs i x d l in
          let t : y ≡ get_or ys i e = b ∙ get_or_default ys i y e (omega arith) in
          subst (λ j. R (get_or xs j d) (get_or ys j e)) q (subst (λ z. R z (get_or ys i e)) s (subst (R x) t r))
