-- Choices are made, found and handed on one pair after the other.
use Rattle.std.proofs.Common.{◌≡◌, ◌^◌, ◌≢◌, ℕ, ◌+◌, ◌<◌, ◌≤◌, List, [], ◌∷◌, ◌++◌, length, get_or, drop, refl, sym, ◌∙◌, ap, arith, length-append, append_assoc}
use Rattle.std.specs.Prelude.{Bool, true, false, cond, ◌==◌, ◌||◌, not}
use Rattle.std.specs.List.{list_any}
use Rattle.std.proofs.lemmas.Bool.{cond-true, cond-false, cond_both, true_from_ne_false, false_from_ne_true, eq-eqb, ne_eqb}
use Rattle.std.proofs.lemmas.List.{at_drop_more}
use Rattle.std.proofs.lemmas.List.Sums.{prefix_len-drop_all, prefix_len-drop_no, prefix_len-drop_yes}
use Rattle.block_select.specs.declared.choices.Choice.{Choice}
use Rattle.block_select.specs.Choices.{is_choice, with_choice, with_pair, choices, place_of_choice, chosen_value, chosen_values}

-- ---- the place of a choice

pub place_here : (cs : List Choice) (c d : Choice) (i : ℕ) → i < length cs → is_choice c (get_or cs i d) ≡ true → place_of_choice (drop i cs) c ≡ 0
place_here cs c d i lt e = prefix_len-drop_no (λ x. not (is_choice c x)) cs i d lt (ap not e)

pub place_further : (cs : List Choice) (c d : Choice) (i : ℕ) → i < length cs → is_choice c (get_or cs i d) ≡ false → place_of_choice (drop i cs) c ≡ 1 + place_of_choice (drop (i + 1) cs) c
place_further cs c d i lt e = prefix_len-drop_yes (λ x. not (is_choice c x)) cs i d lt (ap not e)

pub place_past : (cs : List Choice) (c : Choice) (i : ℕ) → length cs ≤ i → place_of_choice (drop i cs) c ≡ 0
place_past cs c i le = prefix_len-drop_all (λ x. not (is_choice c x)) cs i le

-- ---- one more

there : (cs : List Choice) (c : Choice) → (list_any (is_choice c) cs ≡ true → place_of_choice cs c < length cs) × (list_any (is_choice c) cs ≡ false → place_of_choice cs c ≡ length cs)
there [] c = (λ e. absurd (cc), λ e. refl)
there (d ∷ cs) c = by (is_choice c d) (there cs c)
  where
    by : (t : Bool) → (list_any (is_choice c) cs ≡ true → place_of_choice cs c < length cs) × (list_any (is_choice c) cs ≡ false → place_of_choice cs c ≡ length cs)
        → ((t || list_any (is_choice c) cs) ≡ true → cond (not t) (1 + place_of_choice cs c) 0 < length (d ∷ cs)) × ((t || list_any (is_choice c) cs) ≡ false → cond (not t) (1 + place_of_choice cs c) 0 ≡ length (d ∷ cs))
    by true h = (λ e. omega arith, λ e. absurd (cc))
    by false h = (λ e. let l = h.0 e in omega (arith, l), λ e. let l = h.1 e in omega (arith, l))

pub was_there : (cs : List Choice) (c : Choice) → place_of_choice cs c ≢ length cs → cs ≡ with_choice cs c
was_there cs c ne = sym (cond-true (list_any (is_choice c) cs) cs (cs ++ c ∷ []) (true_from_ne_false (list_any (is_choice c) cs) (λ e. ne ((there cs c).1 e))))

pub was_not_there : (cs : List Choice) (c : Choice) → place_of_choice cs c ≡ length cs → cs ++ c ∷ [] ≡ with_choice cs c
was_not_there cs c e =
    sym (cond-false (list_any (is_choice c) cs) cs (cs ++ c ∷ []) (false_from_ne_true (list_any (is_choice c) cs) (λ t. let l = (there cs c).0 t in absurd (omega (arith, l, e)))))

-- a pair of equal values adds none, and stands for itself
pub pair_same : (cs : List Choice) (c : Choice) → c.yes ≡ c.no → cs ≡ with_pair cs c
pair_same cs c e = sym (cond-true (c.yes == c.no) cs (with_choice cs c) (eq-eqb c.yes c.no e))

pub pair_there : (cs : List Choice) (c : Choice) (p n : ℕ) → c.yes ≢ c.no → p ≡ place_of_choice cs c → n ≡ length cs → p ≢ n → cs ≡ with_pair cs c
pair_there cs c p n ne e l d = was_there cs c (λ x. d (e ∙ x ∙ sym l)) ∙ sym (cond-false (c.yes == c.no) cs (with_choice cs c) (ne_eqb c.yes c.no ne))

pub pair_new : (cs new : List Choice) (c : Choice) (p n : ℕ) → c.yes ≢ c.no → p ≡ place_of_choice cs c → n ≡ length cs → p ≡ n → new ≡ cs ++ c ∷ [] → new ≡ with_pair cs c
pair_new cs new c p n ne e l d a = a ∙ (was_not_there cs c (sym e ∙ d ∙ l) ∙ sym (cond-false (c.yes == c.no) cs (with_choice cs c) (ne_eqb c.yes c.no ne)))

pub value_same : (n : ℕ) (cs : List Choice) (c : Choice) → c.yes ≡ c.no → c.yes ≡ chosen_value n cs c
value_same n cs c e = sym (cond-true (c.yes == c.no) c.yes (n + place_of_choice cs c) (eq-eqb c.yes c.no e))

pub value_chosen : (n p : ℕ) (cs : List Choice) (c : Choice) → c.yes ≢ c.no → p ≡ place_of_choice cs c → n + p ≡ chosen_value n cs c
value_chosen n p cs c ne e = ap (λ q. n + q) e ∙ sym (cond-false (c.yes == c.no) c.yes (n + place_of_choice cs c) (ne_eqb c.yes c.no ne))

-- ---- one pair after the other

module _ (ws xs ys : List ℕ) (i : ℕ) (lt : i < length ws) (lx : length xs ≡ length ws) (ly : length ys ≡ length ws) where
  abbrev pub next_pair : Choice
  next_pair = record { width = get_or ws i 0; yes = get_or xs i 0; no = get_or ys i 0 }

  pub choices_more : (cs new all : List Choice) (c : Choice) → c ≡ next_pair → new ≡ with_pair cs c → choices (drop i ws) (drop i xs) (drop i ys) cs ≡ all
      → choices (drop (i + 1) ws) (drop (i + 1) xs) (drop (i + 1) ys) new ≡ all
  choices_more cs new all c is e h =
      let wr = drop (i + 1) ws in
      let xr = drop (i + 1) xs in
      let yr = drop (i + 1) ys in
      let step : choices (drop i ws) (drop i xs) (drop i ys) cs ≡ choices wr xr yr (with_pair cs next_pair) =
      at_drop_more (λ l. choices l (drop i xs) (drop i ys) cs) ws i 0 lt
      ∙ (at_drop_more (λ l. choices (get_or ws i 0 ∷ wr) l (drop i ys) cs) xs i 0 (omega (arith, lt, lx))
      ∙ at_drop_more (λ l. choices (get_or ws i 0 ∷ wr) (get_or xs i 0 ∷ xr) l cs) ys i 0 (omega (arith, lt, ly))) in
      ap (choices wr xr yr) (e ∙ ap (with_pair cs) is) ∙ (sym step ∙ h)

  pub values_more : (n v : ℕ) (cs : List Choice) (made new all : List ℕ) (c : Choice) → c ≡ next_pair → v ≡ chosen_value n cs c → new ≡ made ++ v ∷ []
      → made ++ chosen_values n cs (drop i ws) (drop i xs) (drop i ys) ≡ all → new ++ chosen_values n cs (drop (i + 1) ws) (drop (i + 1) xs) (drop (i + 1) ys) ≡ all
  values_more n v cs made new all c is e a h =
      let wr = drop (i + 1) ws in
      let xr = drop (i + 1) xs in
      let yr = drop (i + 1) ys in
      let rest = chosen_values n cs wr xr yr in
      let step : chosen_values n cs (drop i ws) (drop i xs) (drop i ys) ≡ chosen_value n cs next_pair ∷ rest =
      at_drop_more (λ l. chosen_values n cs l (drop i xs) (drop i ys)) ws i 0 lt
      ∙ (at_drop_more (λ l. chosen_values n cs (get_or ws i 0 ∷ wr) l (drop i ys)) xs i 0 (omega (arith, lt, lx))
      ∙ at_drop_more (λ l. chosen_values n cs (get_or ws i 0 ∷ wr) (get_or xs i 0 ∷ xr) l) ys i 0 (omega (arith, lt, ly))) in
      ap (λ l. l ++ rest) a ∙ (append_assoc made (v ∷ []) rest ∙ (ap (λ x. made ++ x ∷ rest) (e ∙ ap (chosen_value n cs) is) ∙ (ap (λ l. made ++ l) (sym step) ∙ h)))

-- ---- few choices

with_few : (cs : List Choice) (c : Choice) → length (with_choice cs c) ≤ length cs + 1
with_few cs c = cond_both (list_any (is_choice c) cs) cs (cs ++ c ∷ []) (λ l. length l ≤ length cs + 1) (λ e. omega arith) (λ e. omega (arith, length-append cs (c ∷ [])))

pub choices_few : (ws xs ys : List ℕ) (cs : List Choice) → length (choices ws xs ys cs) ≤ length cs + length ws
choices_few [] xs ys cs = omega arith
choices_few (w ∷ ws) [] ys cs = omega arith
choices_few (w ∷ ws) (x ∷ xs) [] cs = omega arith
choices_few (w ∷ ws) (x ∷ xs) (y ∷ ys) cs =
    let c : Choice = record { width = w; yes = x; no = y } in
    let more = cond (x == y) cs (with_choice cs c) in
    let l : length more ≤ length cs + 1 = cond_both (x == y) cs (with_choice cs c) (λ l. length l ≤ length cs + 1) (λ e. omega arith) (λ e. with_few cs c) in
    let i = choices_few ws xs ys more in omega (arith, l, i)

pub place_within : (cs : List Choice) (c : Choice) → place_of_choice cs c ≤ length cs
place_within cs c = by (list_any (is_choice c) cs) refl
  where
    by : (t : Bool) → list_any (is_choice c) cs ≡ t → place_of_choice cs c ≤ length cs
    by true e = let l = (there cs c).0 e in omega (arith, l)
    by false e = let l = (there cs c).1 e in omega (arith, l)

pub place_fits : (cs : List Choice) (c : Choice) (p n : ℕ) → p ≡ place_of_choice cs c → n + length cs < 2 ^ 32 → n + p < 2 ^ 32
place_fits cs c p n e few = let l = place_within cs c in omega (arith, l, e, few)
