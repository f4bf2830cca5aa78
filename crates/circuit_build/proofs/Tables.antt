-- Tables of counts.
use Rattle.std.proofs.Common.{◌≡◌, ℕ, zero, suc, ◌+◌, ◌-◌, ◌<◌, ◌≤◌, List, [], ◌∷◌, ◌++◌, length, get_or, drop, refl, sym, arith, ap, ◌∙◌, append_assoc}
use Rattle.std.proofs.lemmas.List.{set_past}
use Rattle.std.specs.Prelude.{slice_get, Some}
use Rattle.ir.specs.declared.instr.Instr.{Instr}
use Rattle.circuit_build.specs.Drafts.{plus}
use Rattle.circuit_build.specs.Uses.{zeros, step_added, steps_added}
use Rattle.circuit_build.specs.Edges.{raised}
use Rattle.circuit_build.specs.Fronts.{numbers_from, number_after}

pub zeros_more : (n : ℕ) → zeros n ++ 0 ∷ [] ≡ zeros (n + 1)
zeros_more n = let e : suc n ≡ n + 1 = omega arith in ap zeros e

-- a target past the table changes nothing
pub raised_past : (table : List ℕ) (t : ℕ) → length table ≤ t → raised t table ≡ table
raised_past table t le = set_past table t (plus (get_or table t 0) 1) le

-- ---- ports of a group: one more step is one port more

drop_one : (i x : ℕ) (xs : List ℕ) → drop (suc i + 1) (x ∷ xs) ≡ drop (i + 1) xs
drop_one i x xs = let e : suc i + 1 ≡ suc (i + 1) = omega arith in ap (λ n. drop n (x ∷ xs)) e

pub after_one : (p i : ℕ) (xs : List ℕ) → i < length xs → number_after (plus p 1) (drop (i + 1) xs) ≡ number_after p (drop i xs)
after_one p i [] lt = absurd (omega arith)
after_one p zero (x ∷ xs) lt = refl
after_one p (suc i) (x ∷ xs) lt = ap (number_after (plus p 1)) (drop_one i x xs) ∙ after_one p i xs (omega arith)

pub numbers_one : (p i : ℕ) (xs : List ℕ) → i < length xs → p ∷ numbers_from (plus p 1) (drop (i + 1) xs) ≡ numbers_from p (drop i xs)
numbers_one p i [] lt = absurd (omega arith)
numbers_one p zero (x ∷ xs) lt = refl
numbers_one p (suc i) (x ∷ xs) lt = ap (λ ys. p ∷ numbers_from (plus p 1) ys) (drop_one i x xs) ∙ numbers_one p i xs (omega arith)

pub numbers_grow : (g : List ℕ) (p i : ℕ) (xs : List ℕ) → i < length xs → g ++ p ∷ [] ++ numbers_from (plus p 1) (drop (i + 1) xs) ≡ g ++ numbers_from p (drop i xs)
numbers_grow g p i xs lt = append_assoc g (p ∷ []) (numbers_from (plus p 1) (drop (i + 1) xs)) ∙ ap (λ ys. g ++ ys) (numbers_one p i xs lt)

-- ---- uses, the last step first

steps_back : (w n : ℕ) (is : List Instr) (i : Instr) (t : List ℕ) → slice_get is n ≡ Some i → steps_added w (drop n is) t ≡ step_added w i (steps_added (suc w) (drop (suc n) is) t)
steps_back w n [] i t e = absurd (cc)
steps_back w zero (x ∷ is) i t e = let same : x ≡ i = cc in ap (λ y. step_added w y (steps_added (suc w) is t)) same
steps_back w (suc n) (x ∷ is) i t e = steps_back w n is i t e

pub done_more : (first count done p : ℕ) (steps : List Instr) (i : Instr) (t u v : List ℕ) → done < count → p ≡ count - done - 1 → slice_get steps p ≡ Some i
    → u ≡ steps_added (first + (count - done)) (drop (count - done) steps) t → v ≡ step_added (first + p) i u → v ≡ steps_added (first + (count - (done + 1))) (drop (count - (done + 1)) steps) t
done_more first count done p steps i t u v lt at get a b =
    let x : count - done ≡ suc p = omega (arith, lt, at) in
    let y : first + suc p ≡ suc (first + p) = omega arith in
    let z : count - (done + 1) ≡ p = omega (arith, lt, at) in
    b ∙ ap (step_added (first + p) i) (a ∙ ap (λ m. steps_added (first + m) (drop m steps) t) x ∙ ap (λ m. steps_added m (drop (suc p) steps) t) y)
    ∙ sym (steps_back (first + p) p steps i t get)
    ∙ ap (λ m. steps_added (first + m) (drop m steps) t) (sym z)
