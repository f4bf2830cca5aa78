-- Sums over the numbers below n.
use Rattle.std.proofs.Common.{◌≡◌, ◌≢◌, ℕ, suc, zero, ◌+◌, ◌<◌, ◌≤◌, ◌⊎◌, ◌==◌, true, false, cond, refl, sym, subst, inl, inr, arith, eq-eqb, ne_eqb}
use Rattle.std.proofs.lemmas.Bool.{cases_eq, cases_lt}
use Rattle.net_core.specs.Control.{total}

pub total_step : (w w' p g : ℕ → ℕ) (n : ℕ) → ((c : ℕ) → c < n → w' c + p c ≤ w c + g c) → total w' n + total p n ≤ total w n + total g n
total_step w w' p g zero h = omega arith
total_step w w' p g (suc n) h =
    let a = h n (omega arith) in
    let b = total_step w w' p g n (λ c l. h c (omega arith)) in omega arith

total_mark_none : (k x n : ℕ) → n ≤ k → total (λ c. cond (c == k) x 0) n ≡ 0
total_mark_none k x zero l = refl
total_mark_none k x (suc n) l =
    let e : (n == k) ≡ false = ne_eqb n k (λ m. (omega arith)) in
    let r = total_mark_none k x n (omega arith) in rw e (omega arith)

pub total_mark : (k x n : ℕ) → k < n → total (λ c. cond (c == k) x 0) n ≡ x
total_mark k x zero l = absurd (omega arith)
total_mark k x (suc n) l = by (cases_eq n k) (λ m. total_mark k x n m)
  where
    by : (n ≡ k) ⊎ (n ≡ k → ⊥) → (k < n → total (λ c. cond (c == k) x 0) n ≡ x) → cond (n == k) x 0 + total (λ c. cond (c == k) x 0) n ≡ x
    by (inl e) r = let b : (n == k) ≡ true = eq-eqb n k e in let z = total_mark_none k x n (omega arith) in rw b (omega arith)
    by (inr e) r = let b : (n == k) ≡ false = ne_eqb n k e in let z = r (omega arith) in rw b (omega arith)

pub total_mark_le : (k x n : ℕ) → total (λ c. cond (c == k) x 0) n ≤ x
total_mark_le k x n = elim (cases_lt k n) [ inl l ↦ (let e = total_mark k x n l in omega arith) | inr l ↦ (let e = total_mark_none k x n l in omega arith) ]

pub total_zero : (n : ℕ) → total (λ c. 0) n ≡ 0
total_zero zero = refl
total_zero (suc n) = let r = total_zero n in omega arith

-- two places with something
pub total_two : (w : ℕ → ℕ) (i j n : ℕ) → i ≢ j → i < n → j < n → 1 ≤ w i → 1 ≤ w j → 2 ≤ total w n
total_two w i j n ne li lj hi hj =
    let a = total_step w (λ c. cond (c == i) 1 0) (λ c. cond (c == j) 1 0) (λ c. 0) n (λ c l. at c (cases_eq c i) (cases_eq c j)) in
    let b = total_mark i 1 n li in let d = total_mark j 1 n lj in let z = total_zero n in omega arith
  where
    at : (c : ℕ) → (c ≡ i) ⊎ (c ≡ i → ⊥) → (c ≡ j) ⊎ (c ≡ j → ⊥) → cond (c == i) 1 0 + cond (c == j) 1 0 ≤ w c + 0
    at c (inl a) (inl b) = absurd (ne (omega arith))
    at c (inl a) (inr b) =
        let x : (c == i) ≡ true = eq-eqb c i a in let y : (c == j) ≡ false = ne_eqb c j b in
        rw (x, y) (let z : 1 ≤ w c = rw a hi in omega arith)
    at c (inr a) (inl b) =
        let x : (c == i) ≡ false = ne_eqb c i a in let y : (c == j) ≡ true = eq-eqb c j b in
        rw (x, y) (let z : 1 ≤ w c = rw b hj in omega arith)
    at c (inr a) (inr b) =
        let x : (c == i) ≡ false = ne_eqb c i a in let y : (c == j) ≡ false = ne_eqb c j b in rw (x, y) (omega arith)

pub total_le : (w w' : ℕ → ℕ) (n : ℕ) → ((c : ℕ) → w' c ≤ w c) → total w' n ≤ total w n
total_le w w' n h =
    let a = total_step w w' (λ c. 0) (λ c. 0) n (λ c l. let b = h c in omega arith) in omega arith

-- sums of nothing, of one at most, and the parts of a sum
pub total_all : (w : ℕ → ℕ) (n : ℕ) → ((c : ℕ) → w c ≡ 0) → total w n ≡ 0
total_all w zero h = refl
total_all w (suc n) h = let a = h n in let b = total_all w n h in omega arith

pub total_one : (w : ℕ → ℕ) (n : ℕ) → ((c : ℕ) → w c ≤ 1) → ((c d : ℕ) → 1 ≤ w c → 1 ≤ w d → c ≡ d) → total w n ≤ 1
total_one w zero h one = omega arith
total_one w (suc n) h one = by (cases_lt (w n) 1) (total_one w n h one)
  where
    none : (m : ℕ) → m ≤ n → 1 ≤ w n → total w m ≡ 0
    none zero l p = refl
    none (suc m) l p = let r = none m (omega arith) p in
        elim (cases_lt (w m) 1) [ inl z ↦ omega arith | inr z ↦ (let e = one m n z p in absurd (omega arith)) ]

    by : (w n < 1) ⊎ (1 ≤ w n) → total w n ≤ 1 → w n + total w n ≤ 1
    by (inl l) r = omega arith
    by (inr l) r = let z = none n (omega arith) l in let a = h n in omega arith

pub total_ge : (w : ℕ → ℕ) (n c : ℕ) → c < n → w c ≤ total w n
total_ge w zero c l = absurd (omega arith)
total_ge w (suc n) c l = elim (cases_eq c n) [ inl e ↦ (let P : ℕ → Type 0 = λ x. w x ≤ w n + total w n in subst P (sym e) (omega arith)) | inr m ↦ (let r = total_ge w n c (omega arith) in omega arith) ]
