-- The values that a block uses, and the new numbers of its reads.
use Rattle.std.proofs.Common.{◌≡◌, ℕ, zero, suc, ◌+◌, ◌-◌, ◌<◌, List, [], ◌∷◌, ◌++◌, length, refl, ◌∙◌, ap, arith, inl, inr}
use Rattle.std.specs.Prelude.{Bool, true, false, ◌==◌, ◌||◌, slice_get, if◌then◌else◌}
use Rattle.std.specs.List.{flat_map}
use Rattle.std.proofs.lemmas.Bool.{lt-ltb, le-ltb, eq-eqb, cases_lt}
use Rattle.std.proofs.Math.Bool.{or-true}
use Rattle.std.proofs.lemmas.List.Folds.{list_any-append}
use Rattle.ir.specs.declared.instr.Instr.{Instr}
use Rattle.ir.specs.Renaming.{operands, MayName, AreKept, OperandsAreKept}
use Rattle.block_trim.specs.Trimming.{is_used, kept_reads, used_among, number_among}

-- ---- what is used

abbrev pub AreUsed : List ℕ → List ℕ → Type 0
AreUsed used xs = (a : ℕ) → is_used xs a ≡ true → is_used used a ≡ true

pub used_left : (xs ys : List ℕ) (a : ℕ) → is_used xs a ≡ true → is_used (xs ++ ys) a ≡ true
used_left xs ys a h = list_any-append (λ b. b == a) xs ys ∙ ap (λ (c : Bool). c || is_used ys a) h

pub used_right : (xs ys : List ℕ) (a : ℕ) → is_used ys a ≡ true → is_used (xs ++ ys) a ≡ true
used_right xs ys a h = list_any-append (λ b. b == a) xs ys ∙ ap (λ (c : Bool). is_used xs a || c) h ∙ or-true (is_used xs a)

pub first_used : (a : ℕ) (xs : List ℕ) → is_used (a ∷ xs) a ≡ true
first_used a xs = ap (λ (c : Bool). c || is_used xs a) (eq-eqb a a refl)

pub later_used : (b : ℕ) (xs : List ℕ) (a : ℕ) → is_used xs a ≡ true → is_used (b ∷ xs) a ≡ true
later_used b xs a h = ap (λ (c : Bool). (b == a) || c) h ∙ or-true (b == a)

-- each of the first n values that is used is kept
operands_kept : (used : List ℕ) (n : ℕ) (xs : List ℕ) → AreUsed used xs → AreKept (is_used used) n xs
operands_kept used n [] h = tt
operands_kept used n (a ∷ xs) h = ((λ lt. h a (first_used a xs)), operands_kept used n xs (λ b u. h b (later_used a xs b u)))

pub steps_kept : (used : List ℕ) (n : ℕ) (is : List Instr) → AreUsed used (flat_map operands is) → OperandsAreKept (is_used used) n is
steps_kept used n [] h = tt
steps_kept used n (i ∷ is) h = (
  operands_kept used n (operands i) (λ a u. h a (used_left (operands i) (flat_map operands is) a u)),
  steps_kept used n is (λ a u. h a (used_right (operands i) (flat_map operands is) a u)),
)

pub may_use : (used : List ℕ) (n k a : ℕ) → is_used used a ≡ true → a < n + k → MayName (is_used used) n k a
may_use used n k a u h = elim (cases_lt a n) [ inl lt ↦ inl (lt, u) | inr ge ↦ inr (a - n, omega arith, omega arith) ]

-- ---- new numbers

pub number_of_read : (used : List ℕ) (n a : ℕ) → a < n → number_among used n a ≡ used_among used 0 a
number_of_read used n a h = ap (λ (b : Bool). if b then used_among used 0 a else (used_among used 0 n + (a - n))) (lt-ltb a n h)

pub number_of_step : (used : List ℕ) (n i : ℕ) → number_among used n (n + i) ≡ used_among used 0 n + i
number_of_step used n i =
    let a = n + i in
    ap (λ (b : Bool). if b then used_among used 0 a else (used_among used 0 n + (a - n))) (le-ltb a n (omega arith)) ∙ omega arith

pub length_kept : (used : List ℕ) (i : ℕ) (rs : List ℕ) → length (kept_reads used i rs) ≡ used_among used i (length rs)
length_kept used i [] = refl
length_kept used i (r ∷ rs) = by (is_used used i) (length_kept used (suc i) rs)
  where
    by : (c : Bool) → length (kept_reads used (suc i) rs) ≡ used_among used (suc i) (length rs)
        → length (if c then (r ∷ kept_reads used (suc i) rs) else kept_reads used (suc i) rs) ≡ (if c then 1 else 0) + used_among used (suc i) (length rs)
    by true rest = omega arith
    by false rest = omega arith

-- a read that is used stands at its new number
pub placed : (used : List ℕ) (i : ℕ) (rs : List ℕ) (j : ℕ) → j < length rs → is_used used (i + j) ≡ true
    → slice_get (kept_reads used i rs) (used_among used i j) ≡ slice_get rs j
placed used i [] j h u = absurd (omega arith)
placed used i (r ∷ rs) zero h u =
    let e : is_used used i ≡ true = ap (is_used used) (let q : i ≡ i + 0 = omega arith in q) ∙ u in
    ap (λ (c : Bool). slice_get (if c then (r ∷ kept_reads used (suc i) rs) else kept_reads used (suc i) rs) 0) e
placed used i (r ∷ rs) (suc j) h u =
    by (is_used used i) (placed used (suc i) rs j (omega arith) (ap (is_used used) (let q : suc i + j ≡ i + suc j = omega arith in q) ∙ u))
  where
    by : (c : Bool) → slice_get (kept_reads used (suc i) rs) (used_among used (suc i) j) ≡ slice_get rs j
        → slice_get (if c then (r ∷ kept_reads used (suc i) rs) else kept_reads used (suc i) rs) ((if c then 1 else 0) + used_among used (suc i) j) ≡ slice_get rs j
    by true rest =
        let e : 1 + used_among used (suc i) j ≡ suc (used_among used (suc i) j) = omega arith in
        ap (slice_get (r ∷ kept_reads used (suc i) rs)) e ∙ rest
    by false rest =
        let e : 0 + used_among used (suc i) j ≡ used_among used (suc i) j = omega arith in
        ap (slice_get (kept_reads used (suc i) rs)) e ∙ rest

-- at each place of the kept reads stands a read that is used
pub record IsPlaced (used : List ℕ) (i n k : ℕ) : Type 0 where
  pub at : ℕ
  pub below : at < n
  pub use_of : is_used used (i + at) ≡ true
  pub number : used_among used i at ≡ k

pub each_placed : (used : List ℕ) (i : ℕ) (rs : List ℕ) (k : ℕ) → k < length (kept_reads used i rs) → IsPlaced used i (length rs) k
each_placed used i [] k h = absurd (omega arith)
each_placed used i (r ∷ rs) k h = by (is_used used i) refl k h (λ m lt. each_placed used (suc i) rs m lt)
  where
    shift : (c : Bool) (m m2 : ℕ) → is_used used i ≡ c → IsPlaced used (suc i) (length rs) m → (if c then 1 else 0) + m ≡ m2 → IsPlaced used i (suc (length rs)) m2
    shift c m m2 e p q = record {
      at = suc p.at;
      below = let b = p.below in omega arith;
      use_of = ap (is_used used) (let s : i + suc p.at ≡ suc i + p.at = omega arith in s) ∙ p.use_of;
      number = ap (λ (d : Bool). (if d then 1 else 0) + used_among used (suc i) p.at) e ∙ ap (λ (z : ℕ). (if c then 1 else 0) + z) p.number ∙ q;
    }

    by : (c : Bool) → is_used used i ≡ c → (m2 : ℕ) → m2 < length (if c then (r ∷ kept_reads used (suc i) rs) else kept_reads used (suc i) rs)
        → ((m : ℕ) → m < length (kept_reads used (suc i) rs) → IsPlaced used (suc i) (length rs) m) → IsPlaced used i (suc (length rs)) m2
    by true e zero lt rest = record { at = 0; below = omega arith; use_of = ap (is_used used) (let s : i + 0 ≡ i = omega arith in s) ∙ e; number = refl }
    by true e (suc m) lt rest = shift true m (suc m) e (rest m (omega arith)) (omega arith)
    by false e m lt rest = shift false m m e (rest m lt) (omega arith)
