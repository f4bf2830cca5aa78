-- The names of a header: what each asks for, and which is the first for which nothing is found.
use Rattle.std.proofs.Common.{◌≡◌, ◌≢◌, ℕ, suc, ◌+◌, ◌<◌, cond, Bool, true, false, List, [], ◌∷◌, ◌++◌, length, take, drop, get_or, map, Some, None, refl, sym, ap, ◌∙◌, subst, append_assoc, drop-cons, arith}
use Rattle.std.proofs.Math.Seq.{get_or-append_seam}
use Rattle.std.proofs.lemmas.List.{length-append, map-append, get_or_append_left, take-append-drop, take_more}
use Rattle.std.proofs.lemmas.List.Elements.{All-from_get_or}
use Rattle.std.proofs.lemmas.List.Folds.{list_any_none}
use Rattle.std.proofs.lemmas.Map.Made.{is_some-lookup}
use Rattle.std.specs.List.{All, AllPairs}
use Rattle.std.specs.Map.{keys_of}
use Rattle.el_base.specs.declared.ty.Array.{Array}
use Rattle.el_base.specs.declared.ty.Scalar.{Scalar}
use Rattle.inputs_text.specs.Readings.{scalar_names, array_names}
use Rattle.inputs_text.specs.Rules.{array_slot, beside, scalar_slot, slots}
use Rattle.inputs_text.specs.Texts.{AreNamed, header_names}
use Rattle.inputs_text.proofs.FoundLemmas.{none_there, same_name, same_name-false, same_name-self}

-- a list at one of its places
pub split_at : {T : Type 0} (xs : List T) (i : ℕ) (x : T) → i < length xs → x ≡ get_or xs i x → xs ≡ take i xs ++ x ∷ drop (suc i) xs
split_at xs i x within is =
    sym (take-append-drop i xs) ∙ ap (λ ys. take i xs ++ ys) (drop-cons xs i x within ∙ ap (λ y. y ∷ drop (suc i) xs) (sym is))

-- names that differ from one after them
distinct_before : (before : List (List ℕ)) (x : List ℕ) (after : List (List ℕ)) → AllPairs (λ u v. u ≢ v) (before ++ x ∷ after) → All (λ y. same_name x y ≡ false) before
distinct_before before x after pairs =
    All-from_get_or (λ y. same_name x y ≡ false) before []
    (λ k within. same_name-false x (get_or before k []) (λ same.
    pairs k (length before) [] within (omega (arith, length-append before (x ∷ after)))
    (get_or_append_left before (x ∷ after) [] k within ∙ sym same ∙ sym (get_or-append_seam before x after []))))

module _ {T : Type 0} where
  absent : (es : List (List ℕ × T)) (x : List ℕ) → All (λ y. same_name x y ≡ false) (keys_of es) → beside es x ≡ None
  absent es x apart = none_there (beside es x) (is_some-lookup (same_name x) es ∙ list_any_none (same_name x) (keys_of es) apart)

  beside_at : (es : List (List ℕ × T)) (x : List ℕ) (v : T) (rest : List (List ℕ × T)) → beside es x ≡ None → beside (es ++ (x, v) ∷ rest) x ≡ Some v
  beside_at [] x v rest none = ap (λ b. cond b (Some v) (beside rest x)) (same_name-self x)
  beside_at (e ∷ es) x v rest none = by (same_name x e.0) refl (beside_at es x v rest)
    where
      by : (b : Bool) → same_name x e.0 ≡ b → (beside es x ≡ None → beside (es ++ (x, v) ∷ rest) x ≡ Some v) → beside ((e ∷ es) ++ (x, v) ∷ rest) x ≡ Some v
      by true is more = let some : Some e.1 ≡ None = sym (ap (λ b. cond b (Some e.1) (beside es x)) is) ∙ none in cc
      by false is more = ap (λ b. cond b (Some e.1) (beside (es ++ (x, v) ∷ rest) x)) is ∙ more (sym (ap (λ b. cond b (Some e.1) (beside es x)) is) ∙ none)

-- a scalar among the others
module _ (xs : List Scalar) (s : Scalar) (ys : List Scalar) (arrays : List Array) (named : AreNamed (xs ++ s ∷ ys) arrays) where
  names_here : header_names (xs ++ s ∷ ys) arrays ≡ scalar_names xs ++ s.name ∷ (scalar_names ys ++ array_names arrays)
  names_here = ap (λ l. l ++ array_names arrays) (map-append (λ (x : Scalar). x.name) xs (s ∷ ys)) ∙ append_assoc (scalar_names xs) (s.name ∷ scalar_names ys) (array_names arrays)

  keys_before : (zs : List Scalar) → keys_of (map scalar_slot zs) ≡ scalar_names zs
  keys_before [] = refl
  keys_before (z ∷ zs) = ap (λ l. z.name ∷ l) (keys_before zs)

  pub scalar_absent : beside (map scalar_slot xs) s.name ≡ None
  scalar_absent = absent (map scalar_slot xs) s.name (subst (All (λ y. same_name s.name y ≡ false)) (sym (keys_before xs))
      (distinct_before (scalar_names xs) s.name (scalar_names ys ++ array_names arrays) (subst (AllPairs (λ u v. u ≢ v)) names_here named)))

  pub scalar_known : beside (slots (xs ++ s ∷ ys) arrays) s.name ≡ Some (record { ty = s.ty; len = 1 })
  scalar_known =
      ap (λ es. beside es s.name) (ap (λ l. l ++ map array_slot arrays) (map-append scalar_slot xs (s ∷ ys)) ∙ append_assoc (map scalar_slot xs) (scalar_slot s ∷ map scalar_slot ys) (map array_slot arrays))
      ∙ beside_at (map scalar_slot xs) s.name (record { ty = s.ty; len = 1 }) (map scalar_slot ys ++ map array_slot arrays) scalar_absent

-- an array among the others
module _ (scalars : List Scalar) (xs : List Array) (a : Array) (ys : List Array) (named : AreNamed scalars (xs ++ a ∷ ys)) where
  names_there : header_names scalars (xs ++ a ∷ ys) ≡ (scalar_names scalars ++ array_names xs) ++ a.name ∷ array_names ys
  names_there = ap (λ l. scalar_names scalars ++ l) (map-append (λ (x : Array). x.name) xs (a ∷ ys)) ∙ sym (append_assoc (scalar_names scalars) (array_names xs) (a.name ∷ array_names ys))

  array_keys : (zs : List Array) → keys_of (map array_slot zs) ≡ array_names zs
  array_keys [] = refl
  array_keys (z ∷ zs) = ap (λ l. z.name ∷ l) (array_keys zs)

  all_keys : (zs : List Scalar) → keys_of (map scalar_slot zs ++ map array_slot xs) ≡ scalar_names zs ++ array_names xs
  all_keys [] = array_keys xs
  all_keys (z ∷ zs) = ap (λ l. z.name ∷ l) (all_keys zs)

  pub array_absent : beside (map scalar_slot scalars ++ map array_slot xs) a.name ≡ None
  array_absent = absent (map scalar_slot scalars ++ map array_slot xs) a.name (subst (All (λ y. same_name a.name y ≡ false)) (sym (all_keys scalars))
      (distinct_before (scalar_names scalars ++ array_names xs) a.name (array_names ys) (subst (AllPairs (λ u v. u ≢ v)) names_there named)))

  pub array_known : beside (slots scalars (xs ++ a ∷ ys)) a.name ≡ Some (record { ty = a.ty; len = a.len })
  array_known =
      ap (λ es. beside es a.name) (ap (λ l. map scalar_slot scalars ++ l) (map-append array_slot xs (a ∷ ys)) ∙ sym (append_assoc (map scalar_slot scalars) (map array_slot xs) (array_slot a ∷ map array_slot ys)))
      ∙ beside_at (map scalar_slot scalars ++ map array_slot xs) a.name (record { ty = a.ty; len = a.len }) (map array_slot ys) array_absent

-- a header at one of its places
pub scalar_new : (scalars : List Scalar) (arrays : List Array) (i : ℕ) (s : Scalar) → AreNamed scalars arrays → i < length scalars → s ≡ get_or scalars i s → beside (map scalar_slot (take i scalars)) s.name ≡ None
scalar_new scalars arrays i s named within is = scalar_absent (take i scalars) s (drop (suc i) scalars) arrays (subst (λ l. AreNamed l arrays) (split_at scalars i s within is) named)

pub array_new : (scalars : List Scalar) (arrays : List Array) (i : ℕ) (a : Array) → AreNamed scalars arrays → i < length arrays → a ≡ get_or arrays i a → beside (map scalar_slot scalars ++ map array_slot (take i arrays)) a.name ≡ None
array_new scalars arrays i a named within is = array_absent scalars (take i arrays) a (drop (suc i) arrays) (subst (AreNamed scalars) (split_at arrays i a within is) named)

pub map_one_more : {S T : Type 0} (f : S → T) (xs : List S) (i : ℕ) (x : S) → i < length xs → x ≡ get_or xs i x → map f (take (i + 1) xs) ≡ map f (take i xs) ++ f x ∷ []
map_one_more f xs i x within is = ap (map f) (take_more xs i x within ∙ ap (λ y. take i xs ++ y ∷ []) (sym is)) ∙ map-append f (take i xs) (x ∷ [])
