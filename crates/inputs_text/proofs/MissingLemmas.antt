-- The first name for which nothing is found, and names for which something is.
use Rattle.std.proofs.Common.{◌≡◌, ℕ, suc, ◌+◌, ◌<◌, cond, Bool, List, [], ◌∷◌, ◌++◌, length, take, drop, get_or, map, find, Some, None, is_none, refl, sym, ap, ◌∙◌, subst, arith}
use Rattle.std.proofs.lemmas.List.{map-append, take_more}
use Rattle.std.proofs.lemmas.List.Folds.{find-append}
use Rattle.std.proofs.lemmas.Slice.Zip.{all_zipped_more}
use Rattle.std.specs.List.{AllZip}
use Rattle.std.specs.Option.{option_or}
use Rattle.inputs_text.specs.Rules.{beside}
use Rattle.inputs_text.proofs.HeaderLemmas.{split_at}

pub single : (xs : List ℕ) → length xs ≡ 1 → xs ≡ get_or xs 0 0 ∷ []
single [] h = absurd (omega arith)
single (x ∷ []) h = refl
single (x ∷ y ∷ ys) h = absurd (omega arith)

pub find_same : (p q : List ℕ → Bool) → ((x : List ℕ) → p x ≡ q x) → (xs : List (List ℕ)) → find p xs ≡ find q xs
find_same p q same [] = refl
find_same p q same (x ∷ xs) = ap (λ b. cond b (Some x) (find p xs)) (same x) ∙ ap (λ o. cond (q x) (Some x) o) (find_same p q same xs)

-- parts of a header, each with its name, and what is found for names
module _ {S V : Type 0} (name : S → List ℕ) (value : V → List ℕ) (found : List (List ℕ × List ℕ)) where
  abbrev pub misses : List ℕ → Bool
  misses x = is_none (beside found x)

  abbrev pub Holds : S → V → Type 0
  Holds s v = beside found (name s) ≡ Some (value v)

  pub none_missing : (xs : List S) (vs : List V) → AllZip Holds xs vs → find misses (map name xs) ≡ None
  none_missing [] vs all = refl
  none_missing (x ∷ xs) [] all = absurd all
  none_missing (x ∷ xs) (v ∷ vs) all = ap (λ o. cond (is_none o) (Some (name x)) (find misses (map name xs))) all.0 ∙ none_missing xs vs all.1

  pub more_held : (xs : List S) (i : ℕ) (x : S) (vs : List V) (v : V) → i < length xs → x ≡ get_or xs i x → AllZip Holds (take i xs) vs → Holds x v → AllZip Holds (take (i + 1) xs) (vs ++ v ∷ [])
  more_held xs i x vs v within is all here =
      subst (λ ys. AllZip Holds ys (vs ++ v ∷ [])) (sym (take_more xs i x within ∙ ap (λ y. take i xs ++ y ∷ []) (sym is))) (all_zipped_more Holds (take i xs) vs x v all here)

  pub first_missing : (xs : List S) (i : ℕ) (x : S) (vs : List V) → i < length xs → x ≡ get_or xs i x → AllZip Holds (take i xs) vs → beside found (name x) ≡ None → find misses (map name xs) ≡ Some (name x)
  first_missing xs i x vs within is all none =
      ap (λ ys. find misses (map name ys)) (split_at xs i x within is)
      ∙ ap (find misses) (map-append name (take i xs) (x ∷ drop (suc i) xs))
      ∙ find-append misses (map name (take i xs)) (name x ∷ map name (drop (suc i) xs))
      ∙ ap (λ o. option_or o (find misses (name x ∷ map name (drop (suc i) xs)))) (none_missing (take i xs) vs all)
      ∙ ap (λ o. cond (is_none o) (Some (name x)) (find misses (map name (drop (suc i) xs)))) none
