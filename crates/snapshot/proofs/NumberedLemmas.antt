-- Words that are a word, a number and a list of numbers, and numbers that rise.
use Rattle.std.proofs.Common.{◌≡◌, ℕ, zero, suc, ◌+◌, ◌-◌, ◌<◌, ◌≤◌, ◌^◌, ◌==◌, true, List, [], ◌∷◌, ◌++◌, map, take, drop, length, get_or, decimal, refl, sym, ap, subst, ◌∙◌, arith}
use Rattle.std.specs.List.{All}
use Rattle.std.proofs.lemmas.Bool.{false≢true, ne_eqb}
use Rattle.std.proofs.lemmas.Fmt.{decimal_injective}
use Rattle.std.proofs.lemmas.List.{take_rest}
use Rattle.std.proofs.lemmas.List.Elements.{All-append}
use Rattle.el_base.specs.Limits.{IsNumbered}
use Rattle.net_text.proofs.Lists.{All_single, one_more}
use Rattle.net_core.specs.Parts.{Rising, SentFits}
use Rattle.snapshot.specs.private.Words.{IsBelow, RisingFits, list_words}
use Rattle.snapshot.proofs.Readers.{rising_push, rising_at}

-- a list by its first item and the rest, as a slice pattern takes them
pub first_rest : {R : Type 0} (view : R → List ℕ) (rs : List R) (d : R) → 1 ≤ length rs → map view rs ≡ view (get_or rs 0 d) ∷ map view (take (length rs - 1) (drop 1 rs))
first_rest view [] d h = absurd (omega arith)
first_rest view (r ∷ rs) d h = ap (λ l. view r ∷ map view l) (sym (take_rest (r ∷ rs) 1))

-- where no list that fits with this number has these words after it, no pair that fits has the words
pub list_other : {R : Type 0} (view : R → List ℕ) (Fits : ℕ × List ℕ → Type 0) (word : List ℕ) (bound n : ℕ) (ws : List (List ℕ)) (rs : List R) (d : R)
    → IsNumbered bound → ((v : ℕ × List ℕ) → Fits v → v.0 < bound) → ws ≡ word ∷ map view rs → 1 ≤ length rs → n < bound → decimal n ≡ view (get_or rs 0 d)
    → ((js : List ℕ) → Fits (n, js) → map decimal js ≡ map view (take (length rs - 1) (drop 1 rs)) → ⊥)
    → (v : ℕ × List ℕ) → Fits v → list_words word v ≡ ws → ⊥
list_other view Fits word bound n ws rs d few within is h low same other v f e =
    let w = within v f in
    let all : list_words word v ≡ word ∷ view (get_or rs 0 d) ∷ map view (take (length rs - 1) (drop 1 rs)) = e ∙ is ∙ ap (λ l. word ∷ l) (first_rest view rs d h) in
    let m : v.0 ≡ n = decimal_injective v.0 n (omega arith) (omega arith) (ap (λ l. get_or l 1 []) all ∙ sym same) in
    let P : ℕ → Type 0 = λ k. Fits (k, v.1) in
    other v.1 (subst P m f) (ap (drop 2) all)

pub same_length : {R : Type 0} (view : R → List ℕ) (js : List ℕ) (ts : List R) → map decimal js ≡ map view ts → length js ≡ length ts
same_length view [] [] e = refl
same_length view [] (t ∷ ts) e = absurd (omega (arith, ap length e))
same_length view (j ∷ js) [] e = absurd (omega (arith, ap length e))
same_length view (j ∷ js) (t ∷ ts) e = ap suc (same_length view js ts (ap (drop 1) e))

pub empty_of : {R : Type 0} (view : R → List ℕ) (js : List ℕ) (ts : List R) → map decimal js ≡ map view ts → true ≡ (length ts == 0) → js ≡ []
empty_of view [] ts e h = refl
empty_of view (j ∷ js) [] e h = absurd (omega (arith, ap length e))
empty_of view (j ∷ js) (t ∷ ts) e h = absurd (false≢true (sym (ne_eqb (length (t ∷ ts)) 0 (λ q. omega (arith, q))) ∙ sym h))

pub too_many : (m n s : ℕ) → m ≡ n → m ≤ s → s < n → ⊥
too_many m n s e l h = omega arith

-- the number at a place, by the words
pub number_there : {R : Type 0} (view : R → List ℕ) (js : List ℕ) (rs : List R) (i : ℕ) (d : R) → map decimal js ≡ map view rs → i < length rs → decimal (get_or js i 0) ≡ view (get_or rs i d)
number_there view [] [] i d e l = absurd (omega arith)
number_there view [] (r ∷ rs) i d e l = absurd (omega (arith, ap length e))
number_there view (j ∷ js) [] i d e l = absurd (omega arith)
number_there view (j ∷ js) (r ∷ rs) zero d e l = ap (λ l. get_or l 0 []) e
number_there view (j ∷ js) (r ∷ rs) (suc i) d e l = number_there view js rs i d (ap (drop 1) e) (omega arith)

-- a number more that is not below the least one that may follow
pub rising_more : {R : Type 0} (view : R → List ℕ) (bound least n : ℕ) (js ys : List ℕ) (rs : List R) (i : ℕ) (d : R)
    → ys ≡ js ++ n ∷ [] → All (IsBelow bound) js → map decimal js ≡ map view (take i rs) → Rising js → All (λ j. j < least) js
    → n < bound → decimal n ≡ view (get_or rs i d) → i < length rs → least ≤ n
    → (All (IsBelow bound) ys × (map decimal ys ≡ map view (take (i + 1) rs))) × (Rising ys × All (λ j. j < n + 1) ys)
rising_more view bound least n js ys rs i d e fits same rises low below is l h =
    let P : List ℕ → Type 0 = λ zs. Rising zs × All (λ j. j < n + 1) zs in
    let under : All (λ j. j < n) js = λ k x q. let a = low k x q in omega arith in
    let up : All (λ j. j < n + 1) js = λ k x q. let a = low k x q in omega arith in (
      one_more view (IsBelow bound) decimal js ys n rs i d e fits same below is l,
      subst P (sym e) (rising_push js n rises under, All-append (λ j. j < n + 1) js (n ∷ []) up (All_single (λ j. j < n + 1) n (omega arith))),
    )

-- a number below the least one that may follow is not the next of numbers that rise
pub rising_other : {R : Type 0} (view : R → List ℕ) (bound least n : ℕ) (rs : List R) (i : ℕ) (d : R)
    → bound ≤ 2 ^ 32 → least ≤ bound → 0 < i → decimal (least - 1) ≡ view (get_or rs (i - 1) d) → n < least → decimal n ≡ view (get_or rs i d) → i < length rs
    → (v : List ℕ) → Rising v → All (IsBelow bound) v → map decimal v ≡ map view rs → ⊥
rising_other view bound least n rs i d wide top some last low is l v rises within e =
    let q = same_length view v rs e in
    let a = within (i - 1) 0 (omega arith) in
    let b = within i 0 (omega arith) in
    let x : get_or v (i - 1) 0 ≡ least - 1 = decimal_injective (get_or v (i - 1) 0) (least - 1) (omega arith) (omega arith) (number_there view v rs (i - 1) d e (omega arith) ∙ sym last) in
    let y : get_or v i 0 ≡ n = decimal_injective (get_or v i 0) n (omega arith) (omega arith) (number_there view v rs i d e l ∙ sym is) in
    let r = rising_at v (i - 1) i rises (omega arith) (omega arith) in
    omega arith

-- the number before the least one that may follow stands in the words
pub last_more : {R : Type 0} (view : R → List ℕ) (n : ℕ) (rs : List R) (i : ℕ) (d : R) → decimal n ≡ view (get_or rs i d) → decimal (n + 1 - 1) ≡ view (get_or rs (i + 1 - 1) d)
last_more view n rs i d is =
    let a : n + 1 - 1 ≡ n = omega arith in
    let b : i + 1 - 1 ≡ i = omega arith in
    ap decimal a ∙ is ∙ ap (λ k. view (get_or rs k d)) (sym b)

pub too_few : (m n s t : ℕ) → m ≡ n → m < s → t ≤ n → t ≡ s → ⊥
too_few m n s t e l h q = omega arith

-- outputs that are sent are numbers that rise, below how many there are
pub rising_of : (s t : ℕ) (js : List ℕ) → SentFits s js → t ≡ s → RisingFits t js
rising_of s t js h q = let P : ℕ → Type 0 = λ b. RisingFits b js in subst P (sym q) (record { rising = h.rising; within = h.within })
