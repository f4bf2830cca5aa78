-- Counts of strays: one firing raises them alike wherever it is made, and sums of them over workers.
use Rattle.std.proofs.Common.{◌≡◌, ◌≢◌, ◌⊎◌, inl, inr, ℕ, zero, suc, ◌+◌, ◌<◌, List, [], ◌∷◌, length, get_or, Option, Some, None, refl, ap, ◌∙◌, sym, arith}
use Rattle.std.proofs.lemmas.Bool.{cases_eq}
use Rattle.std.proofs.lemmas.List.FromFn.{sum_by-map-range_with_len_more}
use Rattle.net_core.specs.Fire.{raised, counted}
use Rattle.net_worker.specs.Merge.{sum_below}

-- ---- sums

sum_more : (n : ℕ) (f : ℕ → ℕ) → sum_below (suc n) f ≡ sum_below n f + f n
sum_more n f =
    let up : suc n ≡ n + 1 = omega arith in
    ap (λ k. sum_below k f) up ∙ sum_by-map-range_with_len_more (λ x. x) f 0 n n (omega arith)

pub sum_same : (n : ℕ) (f g : ℕ → ℕ) → ((v : ℕ) → v < n → g v ≡ f v) → sum_below n g ≡ sum_below n f
sum_same zero f g h = refl
sum_same (suc n) f g h =
    let rest = sum_same n f g (λ v l. h v (omega arith)) in
    let here = h n (omega arith) in
    omega (arith, sum_more n f, sum_more n g)

pub sum_none : (n : ℕ) (f : ℕ → ℕ) → ((v : ℕ) → f v ≡ 0) → sum_below n f ≡ 0
sum_none zero f h = refl
sum_none (suc n) f h = omega (arith, sum_more n f, sum_none n f h, h n)

-- one term alone is another
pub sum_changed : (n w : ℕ) (f g : ℕ → ℕ) → w < n → ((v : ℕ) → v ≢ w → g v ≡ f v) → sum_below n g + f w ≡ sum_below n f + g w
sum_changed zero w f g l h = absurd (omega arith)
sum_changed (suc n) w f g l h = by (cases_eq n w) (λ k. sum_changed n w f g k h)
  where
    by : (n ≡ w) ⊎ (n ≡ w → ⊥) → (w < n → sum_below n g + f w ≡ sum_below n f + g w) → sum_below (suc n) g + f w ≡ sum_below (suc n) f + g w
    by (inl q) rest =
        let same = sum_same n f g (λ v k. h v (λ z. (let y : v ≡ n = z ∙ sym q in absurd (omega arith)))) in
        let a : f n ≡ f w = ap f q in
        let b : g n ≡ g w = ap g q in
        omega (arith, sum_more n f, sum_more n g)
    by (inr q) rest =
        let old = rest (omega (arith, q)) in
        let here = h n q in
        omega (arith, sum_more n f, sum_more n g)

-- ---- counts

-- lists of one length are raised by the same
raised_alike : (m : ℕ) (xs ys : List ℕ) (b a : ℕ) → length ys ≡ length xs → get_or (raised m xs b) a 0 + get_or ys a 0 ≡ get_or xs a 0 + get_or (raised m ys b) a 0
raised_alike m [] [] b a l = refl
raised_alike m [] (y ∷ ys) b a l = absurd (omega arith)
raised_alike m (x ∷ xs) [] b a l = absurd (omega arith)
raised_alike m (x ∷ xs) (y ∷ ys) zero zero l = omega arith
raised_alike m (x ∷ xs) (y ∷ ys) zero (suc a) l = refl
raised_alike m (x ∷ xs) (y ∷ ys) (suc b) zero l = refl
raised_alike m (x ∷ xs) (y ∷ ys) (suc b) (suc a) l = raised_alike m xs ys b a (omega arith)

pub counted_alike : (o : Option ℕ) (m : ℕ) (xs ys : List ℕ) (a : ℕ) → length ys ≡ length xs → get_or (counted o m xs) a 0 + get_or ys a 0 ≡ get_or xs a 0 + get_or (counted o m ys) a 0
counted_alike None m xs ys a l = refl
counted_alike (Some b) m xs ys a l = raised_alike m xs ys b a l

length-raised : (m : ℕ) (xs : List ℕ) (b : ℕ) → length (raised m xs b) ≡ length xs
length-raised m [] b = refl
length-raised m (x ∷ xs) zero = refl
length-raised m (x ∷ xs) (suc b) = ap suc (length-raised m xs b)

pub length-counted : (o : Option ℕ) (m : ℕ) (xs : List ℕ) → length (counted o m xs) ≡ length xs
length-counted None m xs = refl
length-counted (Some b) m xs = length-raised m xs b
