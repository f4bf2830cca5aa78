-- What is in a list of numbers, and lists in which no number stands twice.
use Rattle.std.proofs.Common.{◌≡◌, ℕ, zero, suc, ◌+◌, ◌<◌, ◌≤◌, ◌⊎◌, ◌==◌, ◌||◌, not, Bool, true, false, cond, List, [], ◌∷◌, ◌++◌, map, length, get_or, refl, sym, ◌∙◌, ap, subst, arith, length-append, append-nil, append_assoc, inl, inr}
use Rattle.std.specs.Prelude.{set, sum_by}
use Rattle.std.proofs.lemmas.Bool.{eqb-true, eq-eqb}
use Rattle.std.proofs.lemmas.List.{get_or-set_other, length-set}
use Rattle.std.proofs.lemmas.List.Sums.{sum_by-cons, sum_by-set, passes_at_first}
use Rattle.ir.specs.Steps.{value_at}
use Rattle.block_merge.specs.Found.{is_in}
use Rattle.block_merge.specs.Numbered.{place_of}

abbrev pub In : List ℕ → ℕ → Type 0
In [] n = ⊥
In (x ∷ xs) n = (x ≡ n) ⊎ In xs n

-- ---- the test

pub in_of : (xs : List ℕ) (n : ℕ) → is_in xs n ≡ true → In xs n
in_of [] n h = absurd (cc)
in_of (x ∷ xs) n h = by (x == n) refl h (λ k. in_of xs n k)
  where
    by : (b : Bool) → (x == n) ≡ b → (b || is_in xs n) ≡ true → (is_in xs n ≡ true → In xs n) → In (x ∷ xs) n
    by true e k rest = inl (eqb-true x n e)
    by false e k rest = inr (rest k)

pub is_of : (xs : List ℕ) (n : ℕ) → In xs n → is_in xs n ≡ true
is_of [] n h = absurd h
is_of (x ∷ xs) n (inl e) = ap (λ b. b || is_in xs n) (eq-eqb x n e)
is_of (x ∷ xs) n (inr h) = by (x == n) (is_of xs n h)
  where
    by : (b : Bool) → is_in xs n ≡ true → (b || is_in xs n) ≡ true
    by true e = refl
    by false e = e

pub not_in : (xs : List ℕ) (n : ℕ) → is_in xs n ≡ false → In xs n → ⊥
not_in xs n e h = let t : false ≡ true = sym e ∙ is_of xs n h in absurd (cc)

pub out_of : (xs : List ℕ) (n : ℕ) → (In xs n → ⊥) → is_in xs n ≡ false
out_of xs n h = by (is_in xs n) refl
  where
    by : (b : Bool) → is_in xs n ≡ b → is_in xs n ≡ false
    by true e = absurd (h (in_of xs n e))
    by false e = e

-- ---- lists behind lists

pub in_left : (xs ys : List ℕ) (n : ℕ) → In xs n → In (xs ++ ys) n
in_left [] ys n h = absurd h
in_left (x ∷ xs) ys n (inl e) = inl e
in_left (x ∷ xs) ys n (inr h) = inr (in_left xs ys n h)

pub in_right : (xs ys : List ℕ) (n : ℕ) → In ys n → In (xs ++ ys) n
in_right [] ys n h = h
in_right (x ∷ xs) ys n h = inr (in_right xs ys n h)

pub in_either : (xs ys : List ℕ) (n : ℕ) → In (xs ++ ys) n → In xs n ⊎ In ys n
in_either [] ys n h = inr h
in_either (x ∷ xs) ys n (inl e) = inl (inl e)
in_either (x ∷ xs) ys n (inr h) = elim (in_either xs ys n h) [ inl p ↦ inl (inr p) | inr q ↦ inr q ]

-- ---- places

pub in_at : (xs : List ℕ) (i : ℕ) → i < length xs → In xs (get_or xs i 0)
in_at [] i lt = absurd (omega arith)
in_at (x ∷ xs) zero lt = inl refl
in_at (x ∷ xs) (suc i) lt = inr (in_at xs i (omega arith))

pub place_below : (xs : List ℕ) (n : ℕ) → In xs n → place_of xs n < length xs
place_below [] n h = absurd h
place_below (x ∷ xs) n h = by (x == n) refl h (λ k. place_below xs n k)
  where
    by : (b : Bool) → (x == n) ≡ b → In (x ∷ xs) n → (In xs n → place_of xs n < length xs) → place_of (x ∷ xs) n < length (x ∷ xs)
    by true e k rest = let first : place_of (x ∷ xs) n ≡ 0 = ap (λ (c : Bool). cond (not c) (1 + place_of xs n) 0) e in omega (arith, first)
    by false e (inl is) rest = absurd (let t : (x == n) ≡ true = eq-eqb x n is in let u : false ≡ true = sym e ∙ t in cc)
    by false e (inr k) rest =
        let next : place_of (x ∷ xs) n ≡ suc (place_of xs n) = ap (λ (c : Bool). cond (not c) (1 + place_of xs n) 0) e ∙ omega arith in
        let r = rest k in
        omega (arith, next, r)

pub place_there : (xs : List ℕ) (n : ℕ) → In xs n → get_or xs (place_of xs n) 0 ≡ n
place_there xs n h = eqb-true (get_or xs (place_of xs n) 0) n (passes_at_first (λ x. x == n) xs 0 (place_below xs n h))

pub first_place : (x : ℕ) (xs : List ℕ) → place_of (x ∷ xs) x ≡ 0
first_place x xs = ap (λ (c : Bool). cond (not c) (1 + place_of xs x) 0) (eq-eqb x x refl)

-- ---- growing lists

pub record Grows (xs ys : List ℕ) : Type 0 where
  pub more : List ℕ
  pub is : ys ≡ xs ++ more

pub grows_not : (xs : List ℕ) → Grows xs xs
grows_not xs = record { more = []; is = sym (append-nil xs) }

pub grows_twice : (xs ys zs : List ℕ) → Grows xs ys → Grows ys zs → Grows xs zs
grows_twice xs ys zs a b = record { more = a.more ++ b.more; is = b.is ∙ ap (λ l. l ++ b.more) a.is ∙ append_assoc xs a.more b.more }

pub in_grown : (xs ys : List ℕ) (n : ℕ) → Grows xs ys → In xs n → In ys n
in_grown xs ys n g h = subst (λ l. In l n) (sym g.is) (in_left xs g.more n h)

get_left : (xs ys : List ℕ) (i : ℕ) → i < length xs → get_or (xs ++ ys) i 0 ≡ get_or xs i 0
get_left [] ys i lt = absurd (omega arith)
get_left (x ∷ xs) ys zero lt = refl
get_left (x ∷ xs) ys (suc i) lt = get_left xs ys i (omega arith)

pub get_grown : (xs ys : List ℕ) (i : ℕ) → Grows xs ys → i < length xs → get_or ys i 0 ≡ get_or xs i 0
get_grown xs ys i g lt = ap (λ l. get_or l i 0) g.is ∙ get_left xs g.more i lt

pub longer : (xs ys : List ℕ) → Grows xs ys → length xs ≤ length ys
longer xs ys g = let e = ap length g.is in omega (arith, e, length-append xs g.more)

-- ---- no number twice

abbrev pub Distinct : List ℕ → Type 0
Distinct [] = Unit {0}
Distinct (x ∷ xs) = (In xs x → ⊥) × Distinct xs

pub distinct_more : (xs : List ℕ) (n : ℕ) → Distinct xs → (In xs n → ⊥) → Distinct (xs ++ n ∷ [])
distinct_more [] n d h = (λ k. absurd k, tt)
distinct_more (x ∷ xs) n d h = (
  λ k. elim (in_either xs (n ∷ []) x k) [
    | inl p ↦ d.0 p
    | inr q ↦ elim q [ inl e ↦ h (inl (sym e)) | inr nothing ↦ absurd nothing ]
  ],
  distinct_more xs n d.1 (λ k. h (inr k)),
)

abbrev pub AllBelow : ℕ → List ℕ → Type 0
AllBelow m [] = Unit {0}
AllBelow m (x ∷ xs) = (x < m) × AllBelow m xs

pub below_more : (m : ℕ) (xs : List ℕ) (n : ℕ) → AllBelow m xs → n < m → AllBelow m (xs ++ n ∷ [])
below_more m [] n h lt = (lt, tt)
below_more m (x ∷ xs) n h lt = (h.0, below_more m xs n h.1 lt)

pub below_at : (m : ℕ) (xs : List ℕ) (n : ℕ) → AllBelow m xs → In xs n → n < m
below_at m [] n h k = absurd k
below_at m (x ∷ xs) n h (inl e) = let l = h.0 in omega (arith, l, e)
below_at m (x ∷ xs) n h (inr k) = below_at m xs n h.1 k

-- numbers at distinct places add up to no more than all
abbrev total : List ℕ → ℕ
total ws = sum_by (λ w. w) ws

same_elsewhere : (ws xs : List ℕ) (x y : ℕ) → (In xs x → ⊥) → map (value_at (set ws x y)) xs ≡ map (value_at ws) xs
same_elsewhere ws [] x y h = refl
same_elsewhere ws (z ∷ zs) x y h =
    let e : value_at (set ws x y) z ≡ value_at ws z = get_or-set_other ws x z y 0 (λ is. h (inl is)) in
    ap (λ n. n ∷ map (value_at (set ws x y)) zs) e ∙ ap (λ l. value_at ws z ∷ l) (same_elsewhere ws zs x y (λ k. h (inr k)))

pub total_at : (ws xs : List ℕ) → Distinct xs → AllBelow (length ws) xs → total (map (value_at ws) xs) ≤ total ws
total_at ws [] d b = omega arith
total_at ws (x ∷ xs) d b =
    let zs = set ws x 0 in
    let l : length zs ≡ length ws = length-set ws x 0 in
    let i : total (map (value_at zs) xs) ≤ total zs = total_at zs xs d.1 (subst (λ m. AllBelow m xs) (sym l) b.1) in
    let s : total zs + value_at ws x ≡ total ws + 0 = sum_by-set (λ w. w) ws x 0 0 b.0 in
    let e : total (map (value_at zs) xs) ≡ total (map (value_at ws) xs) = ap total (same_elsewhere ws xs x 0 d.0) in
    let c : total (value_at ws x ∷ map (value_at ws) xs) ≡ value_at ws x + total (map (value_at ws) xs) = sum_by-cons (λ w. w) (value_at ws x) (map (value_at ws) xs) in
    omega (arith, i, s, e, c)
