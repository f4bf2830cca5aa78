-- Marks on the reads that are used, and the numbers that they give.
use Rattle.std.proofs.Common.{◌≡◌, ℕ, zero, suc, ◌+◌, ◌-◌, ◌<◌, ◌≤◌, ◌⊎◌, List, [], ◌∷◌, ◌++◌, length, get_or, take, drop, refl, sym, ◌∙◌, ap, subst, arith, drop-cons, append_assoc, append-nil, inl, inr}
use Rattle.std.specs.Prelude.{Bool, true, false, ◌==◌, ◌||◌, set, replicate, if◌then◌else◌}
use Rattle.std.proofs.Math.Bool.{or-true, or-false}
use Rattle.std.proofs.lemmas.Bool.{eq-eqb, ne_eqb, lt-ltb, le-ltb, cases_eq, cases_lt}
use Rattle.std.proofs.lemmas.List.{get_or-set_same, get_or-set_other, length-set, length-replicate, get_or-replicate, take_all}
use Rattle.std.proofs.Math.ListN.{drop_of_length-le}
use Rattle.block_trim.specs.Trimming.{is_used, kept_reads, used_among, number_among}
use Rattle.block_trim.specs.Code.{marked, reads_by, IsLow, number_by, numbers_from, marks_after, numbering}

-- ---- marks

pub marked_append : (ms : List Bool) (xs ys : List ℕ) → marked ms (xs ++ ys) ≡ marked (marked ms xs) ys
marked_append ms [] ys = refl
marked_append ms (x ∷ xs) ys = marked_append (set ms x true) xs ys

pub length_marked : (ms : List Bool) (xs : List ℕ) → length (marked ms xs) ≡ length ms
length_marked ms [] = refl
length_marked ms (x ∷ xs) = length_marked (set ms x true) xs ∙ length-set ms x true

marked_at : (ms : List Bool) (xs : List ℕ) (a : ℕ) → a < length ms → get_or (marked ms xs) a false ≡ (get_or ms a false || is_used xs a)
marked_at ms [] a lt = sym (or-false (get_or ms a false))
marked_at ms (x ∷ xs) a lt = marked_at (set ms x true) xs a (omega (arith, length-set ms x true, lt)) ∙ by (cases_eq x a)
  where
    by : (x ≡ a) ⊎ (x ≡ a → ⊥) → (get_or (set ms x true) a false || is_used xs a) ≡ (get_or ms a false || ((x == a) || is_used xs a))
    by (inl e) =
        let p : get_or (set ms x true) a false ≡ true = ap (λ (k : ℕ). get_or (set ms k true) a false) e ∙ get_or-set_same ms a true false lt in
        ap (λ (c : Bool). c || is_used xs a) p ∙ sym (ap (λ (c : Bool). get_or ms a false || (c || is_used xs a)) (eq-eqb x a e) ∙ or-true (get_or ms a false))
    by (inr ne) =
        let p : get_or (set ms x true) a false ≡ get_or ms a false = get_or-set_other ms x a true false (λ e. ne (sym e)) in
        ap (λ (c : Bool). c || is_used xs a) p ∙ sym (ap (λ (c : Bool). get_or ms a false || (c || is_used xs a)) (ne_eqb x a ne))

-- marks on the values that are numbered from i on
pub record AreMarks (used : List ℕ) (i : ℕ) (ms : List Bool) : Type 0 where
  pub each : (k : ℕ) → k < length ms → get_or ms k false ≡ is_used used (i + k)

pub all_marks : (used : List ℕ) (n : ℕ) → AreMarks used 0 (marked (replicate n false) used)
all_marks used n = record {
  each = λ k lt.
      let few : k < n = omega (arith, lt, length_marked (replicate n false) used, length-replicate n false) in
      marked_at (replicate n false) used k (omega (arith, few, length-replicate n false))
      ∙ ap (λ (c : Bool). c || is_used used k) (get_or-replicate n k false false few)
      ∙ ap (is_used used) (let e : k ≡ 0 + k = omega arith in e);
}

module _ (used : List ℕ) (i : ℕ) (m : Bool) (ms : List Bool) (h : AreMarks used i (m ∷ ms)) where
  head : m ≡ is_used used i
  head = h.each 0 (omega arith) ∙ ap (is_used used) (let e : i + 0 ≡ i = omega arith in e)

  tail : AreMarks used (suc i) ms
  tail = record { each = λ k lt. h.each (suc k) (omega arith) ∙ ap (is_used used) (let e : i + suc k ≡ suc i + k = omega arith in e) }

-- ---- reads

pub reads_same : (used : List ℕ) (i : ℕ) (ms : List Bool) (rs : List ℕ) → length ms ≡ length rs → AreMarks used i ms → reads_by ms rs ≡ kept_reads used i rs
reads_same used i [] [] e h = refl
reads_same used i [] (r ∷ rs) e h = absurd (omega arith)
reads_same used i (m ∷ ms) [] e h = absurd (omega arith)
reads_same used i (m ∷ ms) (r ∷ rs) e h =
    ap (λ (c : Bool). if c then (r ∷ reads_by ms rs) else reads_by ms rs) (head used i m ms h)
    ∙ ap (λ l. if is_used used i then (r ∷ l) else l) (reads_same used (suc i) ms rs (omega arith) (tail used i m ms h))

-- ---- numbers

length_numbers : (n : ℕ) (ms : List Bool) → length (numbers_from n ms) ≡ length ms
length_numbers n [] = refl
length_numbers n (m ∷ ms) = ap suc (length_numbers (if m then n + 1 else n) ms)

one_more : (n z : ℕ) (c : Bool) → (if c then n + 1 else n) + z ≡ n + ((if c then 1 else 0) + z)
one_more n z true = omega arith
one_more n z false = omega arith

numbers_at : (used : List ℕ) (i n : ℕ) (ms : List Bool) (a : ℕ) → AreMarks used i ms → a < length ms → get_or (numbers_from n ms) a 0 ≡ n + used_among used i a
numbers_at used i n [] a h lt = absurd (omega arith)
numbers_at used i n (m ∷ ms) zero h lt = omega arith
numbers_at used i n (m ∷ ms) (suc a) h lt =
    numbers_at used (suc i) (if m then n + 1 else n) ms a (tail used i m ms h) (omega arith)
    ∙ ap (λ (c : Bool). (if c then n + 1 else n) + used_among used (suc i) a) (head used i m ms h)
    ∙ one_more n (used_among used (suc i) a) (is_used used i)

marks_are : (used : List ℕ) (i n : ℕ) (ms : List Bool) → AreMarks used i ms → marks_after n ms ≡ n + used_among used i (length ms)
marks_are used i n [] h = omega arith
marks_are used i n (m ∷ ms) h =
    marks_are used (suc i) (if m then n + 1 else n) ms (tail used i m ms h)
    ∙ ap (λ (c : Bool). (if c then n + 1 else n) + used_among used (suc i) (length ms)) (head used i m ms h)
    ∙ one_more n (used_among used (suc i) (length ms)) (is_used used i)

-- the numbers by marks are those of the definition
pub number_same : (used : List ℕ) (ms : List Bool) → AreMarks used 0 ms → (a : ℕ) → number_by (numbering ms) a ≡ number_among used (length ms) a
number_same used ms h a = by (cases_lt a (length ms))
  where
    long : length (numbers_from 0 ms) ≡ length ms
    long = length_numbers 0 ms

    by : (a < length ms) ⊎ (length ms ≤ a) → number_by (numbering ms) a ≡ number_among used (length ms) a
    by (inl lt) =
        let new : number_by (numbering ms) a ≡ get_or (numbers_from 0 ms) a 0 = ap (λ (c : Bool). if c then get_or (numbers_from 0 ms) a 0 else (marks_after 0 ms + (a - length (numbers_from 0 ms)))) (lt-ltb a (length (numbers_from 0 ms)) (omega (arith, long))) in
        let old : number_among used (length ms) a ≡ used_among used 0 a = ap (λ (c : Bool). if c then used_among used 0 a else (used_among used 0 (length ms) + (a - length ms))) (lt-ltb a (length ms) lt) in
        let same = numbers_at used 0 0 ms a h lt in
        omega (arith, new, old, same)
    by (inr ge) =
        let new : number_by (numbering ms) a ≡ marks_after 0 ms + (a - length (numbers_from 0 ms)) = ap (λ (c : Bool). if c then get_or (numbers_from 0 ms) a 0 else (marks_after 0 ms + (a - length (numbers_from 0 ms)))) (le-ltb a (length (numbers_from 0 ms)) (omega (arith, long))) in
        let old : number_among used (length ms) a ≡ used_among used 0 (length ms) + (a - length ms) = ap (λ (c : Bool). if c then used_among used 0 a else (used_among used 0 (length ms) + (a - length ms))) (le-ltb a (length ms) ge) in
        let same = marks_are used 0 0 ms h in
        omega (arith, new, old, same, long)

-- no number grows
at_most : (n : ℕ) (ms : List Bool) (a : ℕ) → get_or (numbers_from n ms) a 0 ≤ n + a
at_most n [] a = omega arith
at_most n (m ∷ ms) zero = omega arith
at_most n (true ∷ ms) (suc a) = let r = at_most (n + 1) ms a in omega arith
at_most n (false ∷ ms) (suc a) = let r = at_most n ms a in omega arith

few_marks : (n : ℕ) (ms : List Bool) → marks_after n ms ≤ n + length ms
few_marks n [] = omega arith
few_marks n (true ∷ ms) = let r = few_marks (n + 1) ms in omega arith
few_marks n (false ∷ ms) = let r = few_marks n ms in omega arith

low : (ms : List Bool) → IsLow (numbering ms)
low ms = record {
  reads = λ a. let r = at_most 0 ms a in omega arith;
  kept = let r = few_marks 0 ms in omega (arith, length_numbers 0 ms);
}

-- so it is with the numbers that a walk over all marks made
pub low_at : (ms : List Bool) (numbers : List ℕ) (kept i : ℕ) → length ms ≤ i → numbers ++ numbers_from kept (drop i ms) ≡ numbers_from 0 ms → marks_after kept (drop i ms) ≡ marks_after 0 ms
    → IsLow (record { of_reads = numbers; kept = kept })
low_at ms numbers kept i h e k =
    let none : drop i ms ≡ [] = drop_of_length-le ms h in
    let n : numbers_from 0 ms ≡ numbers = sym e ∙ ap (λ l. numbers ++ numbers_from kept l) none ∙ append-nil numbers in
    let a : marks_after 0 ms ≡ kept = sym k ∙ ap (marks_after kept) none in
    subst (λ l. IsLow (record { of_reads = l; kept = kept })) n (subst (λ c. IsLow (record { of_reads = numbers_from 0 ms; kept = c })) a (low ms))

-- the marks of one more read
pub reads_more : (ms : List Bool) (rs kept all : List ℕ) (i : ℕ) (c : Bool) (x : ℕ) → i < length rs → length ms ≡ length rs → get_or ms i false ≡ c → x ≡ get_or rs i 0
    → kept ++ reads_by (drop i ms) (drop i rs) ≡ all → (if c then kept ++ x ∷ [] else kept) ++ reads_by (drop (i + 1) ms) (drop (i + 1) rs) ≡ all
reads_more ms rs kept all i c x lt long e is h = ap (λ j. (if c then kept ++ x ∷ [] else kept) ++ reads_by (drop j ms) (drop j rs)) (let q : i + 1 ≡ suc i = omega arith in q) ∙ by c e ∙ h
  where
    split : (d : Bool) → get_or ms i false ≡ d → reads_by (drop i ms) (drop i rs) ≡ (if d then (x ∷ reads_by (drop (suc i) ms) (drop (suc i) rs)) else reads_by (drop (suc i) ms) (drop (suc i) rs))
    split d f =
        ap (λ l. reads_by l (drop i rs)) (drop-cons ms i false (omega arith))
        ∙ ap (λ l. reads_by (get_or ms i false ∷ drop (suc i) ms) l) (drop-cons rs i 0 lt)
        ∙ ap (λ (b : Bool). if b then (get_or rs i 0 ∷ reads_by (drop (suc i) ms) (drop (suc i) rs)) else reads_by (drop (suc i) ms) (drop (suc i) rs)) f
        ∙ ap (λ y. if d then (y ∷ reads_by (drop (suc i) ms) (drop (suc i) rs)) else reads_by (drop (suc i) ms) (drop (suc i) rs)) (sym is)

    by : (d : Bool) → get_or ms i false ≡ d → (if d then kept ++ x ∷ [] else kept) ++ reads_by (drop (suc i) ms) (drop (suc i) rs) ≡ kept ++ reads_by (drop i ms) (drop i rs)
    by true f = append_assoc kept (x ∷ []) (reads_by (drop (suc i) ms) (drop (suc i) rs)) ∙ ap (λ l. kept ++ l) (sym (split true f))
    by false f = ap (λ l. kept ++ l) (sym (split false f))

-- what all of a list is written over with
pub written_over : {X : Type 0} (items new : List X) (n : ℕ) → length new ≡ n → length items ≡ n → take n (new ++ drop (length new) items) ≡ new
written_over items new n e f =
    ap (λ l. take n (new ++ l)) (drop_of_length-le items (let le : length items ≤ length new = omega arith in le)) ∙ ap (take n) (append-nil new) ∙ take_all n new (omega arith)
