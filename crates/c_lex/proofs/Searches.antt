-- What searches through lists and texts find.
use Rattle.std.proofs.Common.{◌≡◌, ℕ, zero, suc, ◌+◌, ◌-◌, ◌<◌, ◌≤◌, Bool, true, false, cond, List, [], ◌∷◌, length, take, drop, get_or, map, Option, Some, None, option_map, refl, ap, ◌∙◌, arith}
use Rattle.std.proofs.Common.{⊎_elim, length-drop}
use Rattle.std.proofs.lemmas.List.{get_or_default}
use Rattle.std.proofs.lemmas.Bool.{cases_lt}
use Rattle.std.specs.List.{find}
use Rattle.std.specs.Map.{lookup}
use Rattle.c_ast.specs.Pieces.{first_place}
use Rattle.el_base.proofs.DigitLemmas.{rest_is}

-- the first place that passes
pub first_place_is : (test : List ℕ → Bool) (bs : List ℕ) (i : ℕ) → i < length bs → test (drop i bs) ≡ true → ((k : ℕ) → k < i → test (drop k bs) ≡ false) → first_place test bs ≡ Some i
unfolding first_place
first_place_is test [] i within hit before = absurd (omega arith)
first_place_is test (b ∷ bs) zero within hit before = ap (λ t. cond t (Some 0) (option_map (λ n. n + 1) (first_place test bs))) hit
first_place_is test (b ∷ bs) (suc i) within hit before =
    ap (λ t. cond t (Some 0) (option_map (λ n. n + 1) (first_place test bs))) (before 0 (omega arith))
    ∙ ap (option_map (λ n. n + 1)) (first_place_is test bs i (omega arith) hit (λ k below. before (suc k) (omega arith)))
    ∙ ap Some (omega arith)

-- no place passes
pub no_first_place : (test : List ℕ → Bool) (bs : List ℕ) → ((k : ℕ) → k < length bs → test (drop k bs) ≡ false) → first_place test bs ≡ None
unfolding first_place
no_first_place test [] none = refl
no_first_place test (b ∷ bs) none =
    ap (λ t. cond t (Some 0) (option_map (λ n. n + 1) (first_place test bs))) (none 0 (omega arith))
    ∙ ap (option_map (λ n. n + 1)) (no_first_place test bs (λ k below. none (suc k) (omega arith)))

-- the first element that passes
pub find_is : {X : Type 0} (p : X → Bool) (xs : List X) (i : ℕ) (d : X) → i < length xs → p (get_or xs i d) ≡ true → ((k : ℕ) (e : X) → k < i → p (get_or xs k e) ≡ false) → find p xs ≡ Some (get_or xs i d)
find_is p [] i d within hit before = absurd (omega arith)
find_is p (x ∷ xs) zero d within hit before = ap (λ t. cond t (Some x) (find p xs)) hit
find_is p (x ∷ xs) (suc i) d within hit before =
    ap (λ t. cond t (Some x) (find p xs)) (before 0 d (omega arith))
    ∙ find_is p xs i d (omega arith) hit (λ k e below. before (suc k) e (omega arith))

-- no element passes
pub find_none : {X : Type 0} (p : X → Bool) (xs : List X) → ((k : ℕ) (e : X) → k < length xs → p (get_or xs k e) ≡ false) → find p xs ≡ None
find_none p [] none = refl
find_none p (x ∷ xs) none =
    ap (λ t. cond t (Some x) (find p xs)) (none 0 x (omega arith))
    ∙ find_none p xs (λ k e below. none (suc k) e (omega arith))

-- one more element that does not pass
pub none_passes_more : {X : Type 0} (p : X → Bool) (xs : List X) (i : ℕ) (a : X) → i < length xs → ((k : ℕ) (e : X) → k < i → p (get_or xs k e) ≡ false) → p (get_or xs i a) ≡ false
    → (k : ℕ) (e : X) → k < i + 1 → p (get_or xs k e) ≡ false
none_passes_more p xs i a within before here k e below =
    ⊎_elim (λ low. before k e low)
    (λ high.
    let same : k ≡ i = omega arith in
    ap (λ j. p (get_or xs j e)) same ∙ ap p (get_or_default xs i e a within) ∙ here)
    (cases_lt k i)

-- the same of places in a text
pub no_place_more : (test : List ℕ → Bool) (bs : List ℕ) (i : ℕ) → ((k : ℕ) → k < i → test (drop k bs) ≡ false) → test (drop i bs) ≡ false
    → (k : ℕ) → k < i + 1 → test (drop k bs) ≡ false
no_place_more test bs i before here k below =
    ⊎_elim (λ low. before k low) (λ high. let same : k ≡ i = omega arith in ap (λ j. test (drop j bs)) same ∙ here) (cases_lt k i)

-- ---- look-ups

pub lookup-map : {K X Y : Type 0} (test : K → Bool) (f : X → Y) (es : List (K × X)) → lookup test (map (λ e. (e.0, f e.1)) es) ≡ option_map f (lookup test es)
lookup-map test f [] = refl
lookup-map test f (e ∷ es) = by (test e.0) (lookup-map test f es)
  where
    by : (t : Bool) → lookup test (map (λ e. (e.0, f e.1)) es) ≡ option_map f (lookup test es)
        → cond t (Some (f e.1)) (lookup test (map (λ e. (e.0, f e.1)) es)) ≡ option_map f (cond t (Some e.1) (lookup test es))
    by true h = refl
    by false h = h

pub none_before : {X Y : Type 0} (f : X → Y) (o : Option X) → option_map f o ≡ None → o ≡ None
none_before f None e = refl
none_before f (Some x) e = absurd (cc)

pub rest_le : (bs : List ℕ) (i : ℕ) → length (take (length bs - i) (drop i bs)) ≤ length bs
rest_le bs i = let same = ap length (rest_is bs i) in omega (arith, same, length-drop i bs)
