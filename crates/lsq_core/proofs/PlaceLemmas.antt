-- Where the first and the last entry stand that pass a test.
use Rattle.std.proofs.Common.{◌≡◌, ℕ, suc, zero, ◌+◌, ◌<◌, ◌≤◌, ◌⊎◌, ◌&&◌, Bool, true, false, Some, None, option_map, slice_get, List, [], ◌∷◌, length, set, refl, sym, ap, ◌∙◌, inl, inr, arith}
use Rattle.std.proofs.lemmas.Bool.{cases_lt}
use Rattle.std.specs.List.{find, list_all}
use Rattle.lsq_core.specs.declared.entry.Entry.{Entry}
use Rattle.lsq_core.specs.Acts.{first_changed, last_such, executes}
use Rattle.lsq_core.specs.Wants.{IsFirst, NoneBelow, NoneAbove}
use Rattle.lsq_core.specs.Views.{entry_at, oldest_of, serial_of}

none_rest : (t : Entry → Bool) (x : Entry) (xs : List Entry) (n : ℕ) → NoneBelow t (x ∷ xs) (suc n) → NoneBelow t xs n
none_rest t x xs n h = λ k l. h (suc k) (omega arith)

first_rest : (t : Entry → Bool) (x : Entry) (xs : List Entry) (i : ℕ) → IsFirst t (x ∷ xs) (suc i) → IsFirst t xs i
first_rest t x xs i f = record { within = omega (arith, f.within); here = f.here; before = λ k l. f.before (suc k) (omega arith) }

pub find_first : (t : Entry → Bool) (xs : List Entry) (i : ℕ) → IsFirst t xs i → find t xs ≡ Some (entry_at xs i)
find_first t [] i f = absurd (omega (arith, f.within))
find_first t (x ∷ xs) zero f = let e : t x ≡ true = f.here in rw e refl
find_first t (x ∷ xs) (suc i) f = let e : t x ≡ false = f.before 0 (omega arith) in rw e (find_first t xs i (first_rest t x xs i f))

pub find_none : (t : Entry → Bool) (xs : List Entry) → NoneBelow t xs (length xs) → find t xs ≡ None
find_none t [] h = refl
find_none t (x ∷ xs) h = let e : t x ≡ false = h 0 (omega arith) in rw e (find_none t xs (none_rest t x xs (length xs) h))

pub change_first : (t : Entry → Bool) (u : Entry → Entry) (xs : List Entry) (i : ℕ) → IsFirst t xs i → first_changed t u xs ≡ set xs i (u (entry_at xs i))
change_first t u [] i f = absurd (omega (arith, f.within))
change_first t u (x ∷ xs) zero f = let e : t x ≡ true = f.here in rw e refl
change_first t u (x ∷ xs) (suc i) f = let e : t x ≡ false = f.before 0 (omega arith) in rw e (ap (λ ys. x ∷ ys) (change_first t u xs i (first_rest t x xs i f)))

pub change_none : (t : Entry → Bool) (u : Entry → Entry) (xs : List Entry) → NoneBelow t xs (length xs) → first_changed t u xs ≡ xs
change_none t u [] h = refl
change_none t u (x ∷ xs) h = let e : t x ≡ false = h 0 (omega arith) in rw e (ap (λ ys. x ∷ ys) (change_none t u xs (none_rest t x xs (length xs) h)))

-- all pass, or one fails
pub all_pass : (t : Entry → Bool) (xs : List Entry) → ((k : ℕ) → k < length xs → t (entry_at xs k) ≡ true) → list_all t xs ≡ true
all_pass t [] h = refl
all_pass t (x ∷ xs) h = let e : t x ≡ true = h 0 (omega arith) in rw e (all_pass t xs (λ k l. h (suc k) (omega arith)))

pub one_fails : (t : Entry → Bool) (xs : List Entry) (i : ℕ) → i < length xs → t (entry_at xs i) ≡ false → list_all t xs ≡ false
one_fails t [] i l e = absurd (omega arith)
one_fails t (x ∷ xs) zero l e = rw e refl
one_fails t (x ∷ xs) (suc i) l e = by (t x) (one_fails t xs i (omega arith) e)
  where
    by : (b : Bool) → list_all t xs ≡ false → b && list_all t xs ≡ false
    by true q = q
    by false q = refl

-- the steps of a search from the first entry on, where b tells whether the entry x passes
pub none_more : (t : Entry → Bool) (xs : List Entry) (i : ℕ) (x : Entry) (b : Bool) → NoneBelow t xs i → x ≡ entry_at xs i → b ≡ t x → b ≡ false → NoneBelow t xs (i + 1)
none_more t xs i x b h is told fails k l = by (cases_lt k i)
  where
    by : (k < i) ⊎ (i ≤ k) → t (entry_at xs k) ≡ false
    by (inl m) = h k m
    by (inr m) = let e : k ≡ i = omega arith in ap (λ j. t (entry_at xs j)) e ∙ ap t (sym is) ∙ sym told ∙ fails

pub found_here : (t : Entry → Bool) (xs : List Entry) (i : ℕ) (x : Entry) (b : Bool) → NoneBelow t xs i → i < length xs → x ≡ entry_at xs i → b ≡ t x → b ≡ true → IsFirst t xs i
found_here t xs i x b h l is told holds = record { within = l; here = ap t (sym is) ∙ sym told ∙ holds; before = h }

pub first_found : (t : Entry → Bool) (xs : List Entry) (i : ℕ) (x : Entry) → IsFirst t xs i → x ≡ entry_at xs i → Some x ≡ find t xs
first_found t xs i x f is = ap Some is ∙ sym (find_first t xs i f)

pub let_more : (t : Entry → Bool) (xs : List Entry) (i : ℕ) (x : Entry) (b : Bool) → ((k : ℕ) → k < i → t (entry_at xs k) ≡ true) → x ≡ entry_at xs i → b ≡ t x → b ≡ true
    → (k : ℕ) → k < i + 1 → t (entry_at xs k) ≡ true
let_more t xs i x b h is told holds k l = by (cases_lt k i)
  where
    by : (k < i) ⊎ (i ≤ k) → t (entry_at xs k) ≡ true
    by (inl m) = h k m
    by (inr m) = let e : k ≡ i = omega arith in ap (λ j. t (entry_at xs j)) e ∙ ap t (sym is) ∙ sym told ∙ holds

pub fails_here : (t : Entry → Bool) (xs : List Entry) (i : ℕ) (x : Entry) (b : Bool) → i < length xs → x ≡ entry_at xs i → b ≡ t x → b ≡ false → false ≡ list_all t xs
fails_here t xs i x b l is told fails = sym (one_fails t xs i l (ap t (sym is) ∙ sym told ∙ fails))

pub oldest_found : (f : Bool) (n : ℕ) (xs : List Entry) (i : ℕ) (x : Entry) (b : Bool) → NoneBelow (executes f xs) xs i → i < length xs → x ≡ entry_at xs i → b ≡ executes f xs x → b ≡ true
    → Some x.serial ≡ oldest_of (record { forward = f; next = n; items = xs })
oldest_found f n xs i x b h l is told holds = ap (option_map serial_of) (first_found (executes f xs) xs i x (found_here (executes f xs) xs i x b h l is told holds) is)

pub oldest_none : (f : Bool) (n : ℕ) (xs : List Entry) → NoneBelow (executes f xs) xs (length xs) → None ≡ oldest_of (record { forward = f; next = n; items = xs })
oldest_none f n xs h = ap (option_map serial_of) (sym (find_none (executes f xs) xs h))

pub change_here : (t : Entry → Bool) (u : Entry → Entry) (xs : List Entry) (i : ℕ) (x y : Entry) → IsFirst t xs i → x ≡ entry_at xs i → y ≡ u x → set xs i y ≡ first_changed t u xs
change_here t u xs i x y f is made = ap (λ z. set xs i z) (made ∙ ap u is) ∙ sym (change_first t u xs i f)

-- a place within the items has one
pub absent : (xs : List Entry) (i : ℕ) → None ≡ slice_get xs i → i < length xs → ⊥
absent [] i e l = absurd (omega arith)
absent (x ∷ xs) zero e l = cc
absent (x ∷ xs) (suc i) e l = absent xs i e (omega arith)

-- the last entry that passes
last_none : (t : Entry → Bool) (xs : List Entry) → NoneBelow t xs (length xs) → last_such t xs ≡ None
last_none t [] h = refl
last_none t (x ∷ xs) h = let e : t x ≡ false = h 0 (omega arith) in rw (last_none t xs (none_rest t x xs (length xs) h), e) refl

pub none_last : (t : Entry → Bool) (xs : List Entry) → NoneAbove t xs 0 → None ≡ last_such t xs
none_last t xs h = sym (last_none t xs (λ k l. h k (omega arith) l))

pub last_at : (t : Entry → Bool) (xs : List Entry) (i : ℕ) → i < length xs → t (entry_at xs i) ≡ true → NoneAbove t xs (i + 1) → last_such t xs ≡ Some (entry_at xs i)
last_at t [] i l e h = absurd (omega arith)
last_at t (x ∷ xs) zero l e h =
    let n : last_such t xs ≡ None = last_none t xs (λ k m. h (suc k) (omega arith) (omega arith)) in
    rw (n, e) refl
last_at t (x ∷ xs) (suc i) l e h = rw (last_at t xs i (omega arith) e (λ k m b. h (suc k) (omega arith) (omega arith))) refl

pub last_found : (t : Entry → Bool) (xs : List Entry) (i : ℕ) (x : Entry) (b : Bool) → i < length xs → x ≡ entry_at xs i → b ≡ t x → b ≡ true → NoneAbove t xs (i + 1) → Some x ≡ last_such t xs
last_found t xs i x b l is told holds h = ap Some is ∙ sym (last_at t xs i l (ap t (sym is) ∙ sym told ∙ holds) h)

-- one step of a search from the last entry on
pub none_above : (t : Entry → Bool) (xs : List Entry) (i : ℕ) (x : Entry) (b : Bool) → NoneAbove t xs (i + 1) → x ≡ entry_at xs i → b ≡ t x → b ≡ false → NoneAbove t xs i
none_above t xs i x b h is told fails k m l = by (cases_lt i k)
  where
    by : (i < k) ⊎ (k ≤ i) → t (entry_at xs k) ≡ false
    by (inl m) = h k (omega arith) l
    by (inr n) = let e : k ≡ i = omega arith in ap (λ j. t (entry_at xs j)) e ∙ ap t (sym is) ∙ sym told ∙ fails
