-- Marks of the numbers that have been read so far.
use Rattle.std.proofs.Common.{◌≡◌, ◌⊎◌, ℕ, ◌+◌, ◌<◌, ◌≤◌, ◌==◌, Bool, true, false, cond, List, [], ◌∷◌, zero, suc, length, get_or, set, take, replicate, refl, sym, ap, subst, ◌∙◌, inl, inr, arith, length-set, get_or-set_same, get_or-set_other, IsTrue, ◌↔◌, rules}
use Rattle.std.specs.List.{All}
use Rattle.std.proofs.lemmas.Bool.{cases_eq, eq-eqb, ne_eqb, cases_Bool}
use Rattle.std.proofs.lemmas.List.{get_or-replicate, take_all}
use Rattle.std.proofs.lemmas.List.Elements.{All-more, All-nil}
use Rattle.std.proofs.lemmas.List.Sums.{count_by_more_yes, count_by_more_no, sum_by-take-le}
use Rattle.std.proofs.Math.ListN.{length-replicate}
use Rattle.net_check.specs.private.Marks.{times, IsEachOnce}

-- within a list the default does not matter
pub default : {A : Type 0} (xs : List A) (q : ℕ) (a b : A) → q < length xs → get_or xs q a ≡ get_or xs q b
default [] q a b l = absurd (omega arith)
default (x ∷ xs) zero a b l = refl
default (x ∷ xs) (suc q) a b l = default xs q a b (omega arith)

-- the numbers read so far are below n, and the marks stand at them; none was read twice
pub record Marked (n : ℕ) (marks : List Bool) (ns : List ℕ) : Type 0 where
  pub size : length marks ≡ n
  pub named : All (λ p. p < n) ns
  pub marks_at : (p : ℕ) → p < n → times ns p ≡ cond (get_or marks p false) 1 0

pub marked_none : (n : ℕ) (marks : List Bool) → marks ≡ replicate n false → Marked n marks []
marked_none n marks e = record {
  size = ap length e ∙ length-replicate n false;
  named = All-nil _;
  marks_at = λ p l. (let g : get_or marks p false ≡ false = ap (λ m. get_or m p false) e ∙ get_or-replicate n p false false l in rw g refl);
}

pub marked_more : (n : ℕ) (marks : List Bool) (numbers : List ℕ) (i p : ℕ) → i < length numbers → get_or numbers i p ≡ p
    → Marked n marks (take i numbers) → p < n → get_or marks p false ≡ false → Marked n (set marks p true) (take (i + 1) numbers)
marked_more n marks numbers i p l e m b f = record {
  size = length-set marks p true ∙ m.size;
  named = All-more (λ q. q < n) numbers i p l m.named (rw e b);
  marks_at = λ q h. by q h (cases_eq q p);
}
  where
    by : (q : ℕ) → q < n → (q ≡ p) ⊎ (q ≡ p → ⊥) → times (take (i + 1) numbers) q ≡ cond (get_or (set marks p true) q false) 1 0
    by q h (inl k) =
        let w : p < length marks = (let s = m.size in omega arith) in
        let t : (get_or numbers i p == q) ≡ true = eq-eqb _ _ (e ∙ sym k) in
        let c = count_by_more_yes (λ x. x == q) numbers i p l t in
        let z : times (take i numbers) q ≡ 0 = m.marks_at q h ∙ ap (λ x. cond (get_or marks x false) 1 0) k ∙ ap (λ x. cond x 1 0) f in
        let g : get_or (set marks p true) q false ≡ true = ap (λ x. get_or (set marks p true) x false) k ∙ get_or-set_same marks p true false w in
        rw g (c ∙ ap (λ x. x + 1) z)
    by q h (inr k) =
        let t : (get_or numbers i p == q) ≡ false = ne_eqb _ _ (λ x. k (sym x ∙ e)) in
        let c = count_by_more_no (λ x. x == q) numbers i p l t in
        let g : get_or (set marks p true) q false ≡ get_or marks q false = get_or-set_other marks p q true false k in
        rw g (c ∙ m.marks_at q h)

pub not_past : (n : ℕ) (numbers : List ℕ) (i p : ℕ) → i < length numbers → get_or numbers i p ≡ p → n ≤ p → IsEachOnce n numbers → ⊥
not_past n numbers i p l e h o = let b : get_or numbers i p < n = o.named i p l in omega arith

pub not_twice : (n : ℕ) (marks : List Bool) (numbers : List ℕ) (i p : ℕ) → i < length numbers → get_or numbers i p ≡ p
    → Marked n marks (take i numbers) → p < n → get_or marks p false ≡ true → IsEachOnce n numbers → ⊥
not_twice n marks numbers i p l e m b t o =
    let z : times (take i numbers) p ≡ 1 = m.marks_at p b ∙ ap (λ x. cond x 1 0) t in
    let c = count_by_more_yes (λ x. x == p) numbers i p l (eq-eqb _ _ e) in
    let s = sum_by-take-le (λ x. cond (x == p) 1 0) numbers (i + 1) in
    let h = o.each p b in
    omega arith

pub all_marked : (n : ℕ) (marks : List Bool) (numbers : List ℕ) → Marked n marks numbers → All (λ b. b ≡ true) marks → IsEachOnce n numbers
all_marked n marks numbers m a = record {
  named = m.named;
  each = λ p l. (let w : p < length marks = (let s = m.size in omega arith) in let t : get_or marks p false ≡ true = a p false w in m.marks_at p l ∙ ap (λ x. cond x 1 0) t);
}

pub marked_all : (n : ℕ) (marks : List Bool) (numbers : List ℕ) → Marked n marks numbers → IsEachOnce n numbers → All (λ b. b ≡ true) marks
marked_all n marks numbers m o p d l = by (cases_Bool (get_or marks p false))
  where
    k : p < n
    k = let s = m.size in omega arith

    by : (get_or marks p false ≡ true) ⊎ (get_or marks p false ≡ false) → get_or marks p d ≡ true
    by (inl t) = default marks p d false l ∙ t
    by (inr f) = let z : times numbers p ≡ 0 = m.marks_at p k ∙ ap (λ x. cond x 1 0) f in let h = o.each p k in absurd (omega arith)

pub no-true : (P : Type 0) → (P → ⊥) → (IsTrue false → P) × (P → IsTrue false)
no-true P h = (λ e. absurd (search rules), λ p. absurd (h p))

pub past-refused : (n : ℕ) (numbers : List ℕ) (i : ℕ) → i < length numbers → n ≤ get_or numbers i 0 → IsTrue false ↔ IsEachOnce n numbers
past-refused n numbers i l h = no-true _ (not_past n numbers i (get_or numbers i 0) l (default numbers i _ _ l) h)

pub twice-refused : (n : ℕ) (marks : List Bool) (numbers : List ℕ) (i : ℕ) (b : Bool) → i < length numbers
    → Marked n marks (take i numbers) → get_or numbers i 0 < n → b ≡ get_or marks (get_or numbers i 0) b → b ≡ true → IsTrue false ↔ IsEachOnce n numbers
twice-refused n marks numbers i b l m h e t = no-true _ (not_twice n marks numbers i (get_or numbers i 0) l (default numbers i _ _ l) m h (default marks _ false b (let s = m.size in omega arith) ∙ sym e ∙ t))

pub first-marked : (n : ℕ) (marks : List Bool) (numbers : List ℕ) (i : ℕ) (b : Bool) → i < length numbers
    → Marked n marks (take i numbers) → get_or numbers i 0 < n → b ≡ get_or marks (get_or numbers i 0) b → b ≡ false → Marked n (set marks (get_or numbers i 0) true) (take (i + 1) numbers)
first-marked n marks numbers i b l m h e t = marked_more n marks numbers i (get_or numbers i 0) l (default numbers i _ _ l) m h (default marks _ false b (let s = m.size in omega arith) ∙ sym e ∙ t)

pub all-decided : (n : ℕ) (marks : List Bool) (numbers : List ℕ) (i : ℕ) (b : Bool) → length numbers ≤ i → Marked n marks (take i numbers)
    → IsTrue b ↔ All (λ x. x ≡ true) marks → IsTrue b ↔ IsEachOnce n numbers
all-decided n marks numbers i b l m d =
    let k : Marked n marks numbers = (let P : List ℕ → Type 0 = λ ns. Marked n marks ns in subst P (take_all i numbers l) m) in
    (λ t. all_marked n marks numbers k (d.0 t), λ o. d.1 (marked_all n marks numbers k o))

pub false_iff : (b : Bool) (P : Type 0) → (IsTrue b ↔ P) → b ≡ false → P → ⊥
false_iff true P h e p = cc
false_iff false P h e p = (let x : IsTrue false = h.1 p in absurd (search rules))

pub true_iff : (b : Bool) (P : Type 0) → (IsTrue b ↔ P) → b ≡ true → P
true_iff true P h e = h.0 (search rules)
true_iff false P h e = cc
