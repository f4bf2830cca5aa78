-- Marks on the values that are needed.
use Rattle.std.proofs.Common.{◌≡◌, ℕ, ◌<◌, ◌⊎◌, List, [], ◌∷◌, ◌++◌, length, get_or, refl, sym, ◌∙◌, ap, arith, inl, inr}
use Rattle.std.specs.Prelude.{Bool, true, false, ◌==◌, ◌||◌, set}
use Rattle.std.proofs.Math.Bool.{or-true, or-false}
use Rattle.std.proofs.lemmas.Bool.{eq-eqb, ne_eqb, cases_eq}
use Rattle.std.proofs.lemmas.List.{get_or-set_same, get_or-set_other, length-set}
use Rattle.block_merge.specs.Found.{is_in}
use Rattle.block_prune.specs.Code.{marked}

pub marked_append : (ms : List Bool) (xs ys : List ℕ) → marked ms (xs ++ ys) ≡ marked (marked ms xs) ys
marked_append ms [] ys = refl
marked_append ms (x ∷ xs) ys = marked_append (set ms x true) xs ys

pub length_marked : (ms : List Bool) (xs : List ℕ) → length (marked ms xs) ≡ length ms
length_marked ms [] = refl
length_marked ms (x ∷ xs) = length_marked (set ms x true) xs ∙ length-set ms x true

pub marked_at : (ms : List Bool) (xs : List ℕ) (a : ℕ) → a < length ms → get_or (marked ms xs) a false ≡ (get_or ms a false || is_in xs a)
marked_at ms [] a lt = sym (or-false (get_or ms a false))
marked_at ms (x ∷ xs) a lt = marked_at (set ms x true) xs a (omega (arith, length-set ms x true, lt)) ∙ by (cases_eq x a)
  where
    by : (x ≡ a) ⊎ (x ≡ a → ⊥) → (get_or (set ms x true) a false || is_in xs a) ≡ (get_or ms a false || ((x == a) || is_in xs a))
    by (inl e) =
        let p : get_or (set ms x true) a false ≡ true = ap (λ (k : ℕ). get_or (set ms k true) a false) e ∙ get_or-set_same ms a true false lt in
        ap (λ (c : Bool). c || is_in xs a) p ∙ sym (ap (λ (c : Bool). get_or ms a false || (c || is_in xs a)) (eq-eqb x a e) ∙ or-true (get_or ms a false))
    by (inr ne) =
        let p : get_or (set ms x true) a false ≡ get_or ms a false = get_or-set_other ms x a true false (λ e. ne (sym e)) in
        ap (λ (c : Bool). c || is_in xs a) p ∙ sym (ap (λ (c : Bool). get_or ms a false || (c || is_in xs a)) (ne_eqb x a ne))
