-- A list with other items at some places.
use Rattle.std.proofs.Common.{◌≡◌, ℕ, zero, suc, ◌<◌, List, [], ◌∷◌, length, get_or, set, map, refl, sym, ap, subst, arith, ◌∙◌}
use Rattle.std.proofs.lemmas.List.{get_or-set_same, get_or-set_other, set-set, set_comm, map-set, set-get_or}
use Rattle.net_worker.specs.ChannelEnds.{put_over, length-put_over, AreChannels, StandsAt, IsNotAmong}

-- elsewhere as it was
pub put_over_none : {A : Type 0} (cs : List ℕ) (xs base : List A) (c : ℕ) (d : A) → IsNotAmong cs c → get_or (put_over cs xs base) c d ≡ get_or base c d
put_over_none [] xs base c d other = refl
put_over_none (b ∷ cs) [] base c d other = refl
put_over_none (b ∷ cs) (x ∷ xs) base c d other =
    get_or-set_other (put_over cs xs base) b c x d (λ q. other 0 (omega arith) (sym q)) ∙ put_over_none cs xs base c d (λ i l. other (suc i) (omega (arith, l)))

-- channels without the first
pub behind : (n c : ℕ) (cs : List ℕ) → AreChannels n (c ∷ cs) → AreChannels n cs
behind n c cs h = record {
  rise = λ j k p q. h.rise (suc j) (suc k) (omega (arith, p)) (omega (arith, q));
  within = λ j p. h.within (suc j) (omega (arith, p));
}

-- at each place its own item
over_some : {A : Type 0} (cs : List ℕ) (xs base : List A) (i : ℕ) (d : A) → AreChannels (length base) cs → length xs ≡ length cs → i < length cs
    → get_or (put_over cs xs base) (get_or cs i 0) d ≡ get_or xs i d
over_some [] xs base i d h long l = absurd (omega (arith, l))
over_some (c ∷ cs) [] base i d h long l = absurd (omega (arith, long))
over_some (c ∷ cs) (x ∷ xs) base zero d h long l =
    get_or-set_same (put_over cs xs base) c x d (subst (λ m. c < m) (sym (length-put_over cs xs base)) (h.within 0 l))
over_some (c ∷ cs) (x ∷ xs) base (suc i) d h long l =
    get_or-set_other (put_over cs xs base) c (get_or cs i 0) x d (λ q. let r = h.rise 0 (suc i) (omega arith) l in omega (arith, r, q))
    ∙ over_some cs xs base i d (behind (length base) c cs h) (omega (arith, long)) (omega (arith, l))

pub put_over_some : {A : Type 0} (cs : List ℕ) (xs base : List A) (c i : ℕ) (d : A) → AreChannels (length base) cs → length xs ≡ length cs → StandsAt cs c i
    → get_or (put_over cs xs base) c d ≡ get_or xs i d
put_over_some cs xs base c i d h long s = subst (λ b. get_or (put_over cs xs base) b d ≡ get_or xs i d) s.1 (over_some cs xs base i d h long s.0)

-- another item there, and all others as they were
over_set : {A : Type 0} (n : ℕ) (cs : List ℕ) (xs base : List A) (i : ℕ) (x : A) → AreChannels n cs → length xs ≡ length cs → i < length cs
    → put_over cs (set xs i x) base ≡ set (put_over cs xs base) (get_or cs i 0) x
over_set n [] xs base i x h long l = absurd (omega (arith, l))
over_set n (c ∷ cs) [] base i x h long l = absurd (omega (arith, long))
over_set n (c ∷ cs) (y ∷ xs) base zero x h long l = sym (set-set (put_over cs xs base) c y x)
over_set n (c ∷ cs) (y ∷ xs) base (suc i) x h long l =
    ap (λ zs. set zs c y) (over_set n cs xs base i x (behind n c cs h) (omega (arith, long)) (omega (arith, l)))
    ∙ set_comm (put_over cs xs base) (get_or cs i 0) c x y (λ q. let r = h.rise 0 (suc i) (omega arith) l in omega (arith, r, q))

pub put_over_set : {A : Type 0} (n : ℕ) (cs : List ℕ) (xs base : List A) (c i : ℕ) (x : A) → AreChannels n cs → length xs ≡ length cs → StandsAt cs c i
    → put_over cs (set xs i x) base ≡ set (put_over cs xs base) c x
put_over_set n cs xs base c i x h long s = subst (λ b. put_over cs (set xs i x) base ≡ set (put_over cs xs base) b x) s.1 (over_set n cs xs base i x h long s.0)

pub map-put_over : {A B : Type 0} (f : A → B) (cs : List ℕ) (xs base : List A) → map f (put_over cs xs base) ≡ put_over cs (map f xs) (map f base)
map-put_over f [] xs base = refl
map-put_over f (c ∷ cs) [] base = refl
map-put_over f (c ∷ cs) (x ∷ xs) base = map-set f (put_over cs xs base) c x ∙ ap (λ ys. set ys c (f x)) (map-put_over f cs xs base)

-- items that are there already change nothing
pub put_over_same : {A : Type 0} (cs : List ℕ) (xs base : List A) (d : A) → length xs ≡ length cs → ((i : ℕ) → i < length cs → get_or xs i d ≡ get_or base (get_or cs i 0) d) → AreChannels (length base) cs
    → put_over cs xs base ≡ base
put_over_same [] xs base d long same h = refl
put_over_same (c ∷ cs) [] base d long same h = refl
put_over_same (c ∷ cs) (x ∷ xs) base d long same h =
    ap (λ ys. set ys c x) (put_over_same cs xs base d (omega (arith, long)) (λ i l. same (suc i) (omega (arith, l))) (behind (length base) c cs h))
    ∙ (ap (set base c) (same 0 (omega arith)) ∙ set-get_or base c d)
