-- Bits of forks.
use Rattle.std.proofs.Common.{◌≡◌, ℕ, zero, suc, ◌<◌, ◌≤◌, ◌⊎◌, ◌==◌, not, Bool, true, false, List, [], ◌∷◌, length, get_or, set, map, replicate, refl, sym, ap, ◌∙◌, inl, inr, arith, eq-eqb, ne_eqb}
use Rattle.std.proofs.lemmas.List.{map-set}
use Rattle.std.specs.List.{list_all}
use Rattle.net_core.specs.private.Sents.{count_false, is_marked}
use Rattle.net_core.specs.Fire.{sent_to}

pub all_or : (bs : List Bool) → ((list_all (λ b. b) bs ≡ true) × (count_false bs ≡ 0)) ⊎ ((list_all (λ b. b) bs ≡ false) × (1 ≤ count_false bs))
all_or [] = inl (refl, refl)
all_or (true ∷ bs) = all_or bs
all_or (false ∷ bs) = inr (refl, omega arith)

pub set_count : (xs : List Bool) (j : ℕ) → get_or xs j true ≡ false → count_false xs ≡ suc (count_false (set xs j true))
set_count [] j h = cc
set_count (true ∷ xs) zero h = cc
set_count (false ∷ xs) zero h = refl
set_count (true ∷ xs) (suc j) h = set_count xs j h
set_count (false ∷ xs) (suc j) h = ap suc (set_count xs j h)

pub last_one : (xs : List Bool) (j : ℕ) → get_or xs j true ≡ false → list_all (λ b. b) (set xs j true) ≡ (count_false xs == 1)
last_one xs j h = by (all_or (set xs j true))
  where
    by : ((list_all (λ b. b) (set xs j true) ≡ true) × (count_false (set xs j true) ≡ 0)) ⊎ ((list_all (λ b. b) (set xs j true) ≡ false) × (1 ≤ count_false (set xs j true))) → list_all (λ b. b) (set xs j true) ≡ (count_false xs == 1)
    by (inl w) = let s = set_count xs j h in let e : count_false xs ≡ 1 = (let z = w.1 in omega arith) in w.0 ∙ sym (eq-eqb _ _ e)
    by (inr w) = let s = set_count xs j h in let e : count_false xs ≡ 1 → ⊥ = (λ k. let z = w.1 in omega arith) in w.0 ∙ sym (ne_eqb _ _ e)

mark_self : (m : Bool) → is_marked m m ≡ true
mark_self true = refl
mark_self false = refl

marked_flip : (m : Bool) (bs : List Bool) → map (is_marked (not m)) bs ≡ map not (map (is_marked m) bs)
marked_flip m [] = refl
marked_flip m (b ∷ bs) = let h : is_marked (not m) b ≡ not (is_marked m b) = one m b in let t = marked_flip m bs in cc
  where
    one : (m b : Bool) → is_marked (not m) b ≡ not (is_marked m b)
    one true true = refl
    one true false = refl
    one false true = refl
    one false false = refl

all_not : (bs : List Bool) → list_all (λ b. b) bs ≡ true → map not bs ≡ map (λ (b : Bool). false) bs
all_not [] h = refl
all_not (true ∷ bs) h = ap (λ r. false ∷ r) (all_not bs h)
all_not (false ∷ bs) h = cc

count_cleared : (bs : List Bool) → count_false (map (λ (b : Bool). false) bs) ≡ length bs
count_cleared [] = refl
count_cleared (b ∷ bs) = ap suc (count_cleared bs)

pub send_view : (m : Bool) (bits : List Bool) (j : ℕ) → map (is_marked m) (set bits j m) ≡ set (map (is_marked m) bits) j true
send_view m bits j = map-set (is_marked m) bits j m ∙ ap (set (map (is_marked m) bits) j) (mark_self m)

-- not the last bit
pub send_more : (m : Bool) (bits : List Bool) (j : ℕ) → get_or (map (is_marked m) bits) j true ≡ false → 0 < count_false (set (map (is_marked m) bits) j true)
    → map (is_marked m) (set bits j m) ≡ sent_to j (map (is_marked m) bits)
send_more m bits j h l =
    let e : list_all (λ b. b) (set (map (is_marked m) bits) j true) ≡ false = by (all_or (set (map (is_marked m) bits) j true)) in
    rw e (send_view m bits j)
  where
    by : ((list_all (λ b. b) (set (map (is_marked m) bits) j true) ≡ true) × (count_false (set (map (is_marked m) bits) j true) ≡ 0)) ⊎ ((list_all (λ b. b) (set (map (is_marked m) bits) j true) ≡ false) × (1 ≤ count_false (set (map (is_marked m) bits) j true)))
        → list_all (λ b. b) (set (map (is_marked m) bits) j true) ≡ false
    by (inl w) = let z = w.1 in absurd (omega arith)
    by (inr w) = w.0

-- the last bit
pub send_last : (m : Bool) (bits : List Bool) (j : ℕ) → count_false (set (map (is_marked m) bits) j true) ≡ 0
    → map (is_marked (not m)) (set bits j m) ≡ sent_to j (map (is_marked m) bits)
send_last m bits j z =
    let e : list_all (λ b. b) (set (map (is_marked m) bits) j true) ≡ true = by (all_or (set (map (is_marked m) bits) j true)) in
    rw e (marked_flip m (set bits j m) ∙ (ap (map not) (send_view m bits j) ∙ all_not _ e))
  where
    by : ((list_all (λ b. b) (set (map (is_marked m) bits) j true) ≡ true) × (count_false (set (map (is_marked m) bits) j true) ≡ 0)) ⊎ ((list_all (λ b. b) (set (map (is_marked m) bits) j true) ≡ false) × (1 ≤ count_false (set (map (is_marked m) bits) j true)))
        → list_all (λ b. b) (set (map (is_marked m) bits) j true) ≡ true
    by (inl w) = w.0
    by (inr w) = let y = w.1 in absurd (omega arith)

-- after the last bit all are clear
pub last_count : (m : Bool) (bits : List Bool) (j : ℕ) → count_false (set (map (is_marked m) bits) j true) ≡ 0
    → count_false (map (is_marked (not m)) (set bits j m)) ≡ length (set bits j m)
last_count m bits j z =
    let e : list_all (λ b. b) (set (map (is_marked m) bits) j true) ≡ true = by (all_or (set (map (is_marked m) bits) j true)) in
    let v = marked_flip m (set bits j m) ∙ (ap (map not) (send_view m bits j) ∙ all_not _ e) in
    ap count_false v ∙ (count_cleared (set (map (is_marked m) bits) j true) ∙ same)
  where
    len_map : (f : Bool → Bool) (bs : List Bool) → length (map f bs) ≡ length bs
    len_map f [] = refl
    len_map f (b ∷ bs) = ap suc (len_map f bs)

    same : length (set (map (is_marked m) bits) j true) ≡ length (set bits j m)
    same = sym (ap length (send_view m bits j)) ∙ len_map (is_marked m) (set bits j m)

    by : ((list_all (λ b. b) (set (map (is_marked m) bits) j true) ≡ true) × (count_false (set (map (is_marked m) bits) j true) ≡ 0)) ⊎ ((list_all (λ b. b) (set (map (is_marked m) bits) j true) ≡ false) × (1 ≤ count_false (set (map (is_marked m) bits) j true)))
        → list_all (λ b. b) (set (map (is_marked m) bits) j true) ≡ true
    by (inl w) = w.0
    by (inr w) = let y = w.1 in absurd (omega arith)

pub none_set : (n : ℕ) → map (is_marked true) (replicate n false) ≡ replicate n false
none_set zero = refl
none_set (suc n) = ap (λ r. false ∷ r) (none_set n)

pub none_count : (n : ℕ) → count_false (map (is_marked true) (replicate n false)) ≡ n
none_count zero = refl
none_count (suc n) = ap suc (none_count n)
