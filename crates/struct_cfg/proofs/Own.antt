-- One variable more.
use Rattle.std.proofs.Common.{◌≡◌, ℕ, zero, suc, ◌+◌, ◌<◌, List, [], ◌∷◌, ◌++◌, length, get_or, take, ◌∙◌, ap, arith}
use Rattle.struct_cfg.specs.Drafts.{count_from, own_values, writes_from}

count_more : (j i : ℕ) → count_from j (suc i) ≡ count_from j i ++ (j + i) ∷ []
count_more j zero = let e : j ≡ j + 0 = omega arith in ap (λ n. n ∷ []) e
count_more j (suc i) = let e : suc j + i ≡ j + suc i = omega arith in ap (λ l. j ∷ l) (count_more (suc j) i ∙ ap (λ n. count_from (suc j) i ++ n ∷ []) e)

pub own_more : (i : ℕ) → own_values (i + 1) ≡ own_values i ++ i ∷ []
own_more i = let a : i + 1 ≡ suc i = omega arith in let b : 0 + i ≡ i = omega arith in ap own_values a ∙ count_more 0 i ∙ ap (λ n. own_values i ++ n ∷ []) b

writes_at : (j i : ℕ) (vs : List ℕ) → i < length vs → writes_from j (take (suc i) vs) ≡ writes_from j (take i vs) ++ record { var = j + i; value = get_or vs i 0 } ∷ []
writes_at j i [] h = absurd (omega arith)
writes_at j zero (v ∷ vs) h = let e : j ≡ j + 0 = omega arith in ap (λ n. record { var = n; value = v } ∷ []) e
writes_at j (suc i) (v ∷ vs) h =
    let e : suc j + i ≡ j + suc i = omega arith in
    ap (λ l. record { var = j; value = v } ∷ l) (writes_at (suc j) i vs (omega arith) ∙ ap (λ n. writes_from (suc j) (take i vs) ++ record { var = n; value = get_or vs i 0 } ∷ []) e)

pub writes_more : (i : ℕ) (vs : List ℕ) → i < length vs → writes_from 0 (take (i + 1) vs) ≡ writes_from 0 (take i vs) ++ record { var = i; value = get_or vs i 0 } ∷ []
writes_more i vs h = let a : i + 1 ≡ suc i = omega arith in let b : 0 + i ≡ i = omega arith in ap (λ n. writes_from 0 (take n vs)) a ∙ writes_at 0 i vs h ∙ ap (λ n. writes_from 0 (take i vs) ++ record { var = n; value = get_or vs i 0 } ∷ []) b
