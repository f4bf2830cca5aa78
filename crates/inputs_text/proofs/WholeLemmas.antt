-- What is said of a whole text, from what is found for the names of a header.
use Rattle.std.proofs.Common.{◌≡◌, inl, inr, ℕ, ℤ, ◌<◌, ◌^◌, List, [], ◌∷◌, ◌++◌, length, map, find, Option, Some, None, is_none, IfSome, Err, refl, sym, ap, ◌∙◌, subst, append_assoc}
use Rattle.std.proofs.lemmas.List.{length-map}
use Rattle.std.proofs.lemmas.List.Elements.{All-nil, All-cons}
use Rattle.std.proofs.lemmas.List.Folds.{find-append}
use Rattle.std.specs.List.{All, AllZip}
use Rattle.std.specs.Option.{option_or}
use Rattle.std.specs.Str.Lines.{lines}
use Rattle.el_base.specs.declared.ty.Ty.{Ty}
use Rattle.el_base.specs.declared.ty.Array.{Array}
use Rattle.el_base.specs.declared.ty.Scalar.{Scalar}
use Rattle.el_base.specs.Numbers.{pattern}
use Rattle.el_base.specs.Widths.{ty_width}
use Rattle.net_types.specs.Inputs.{AreElementsOf, IsPatternOf}
use Rattle.inputs_text.specs.declared.header.Slot.{Slot}
use Rattle.inputs_text.specs.declared.refusal.InputRefusal.{InputRefusal}
use Rattle.inputs_text.specs.declared.refusal.InputRefusal.TheVariants as refusal
use Rattle.inputs_text.specs.declared.refusal.Rule.{Rule}
use Rattle.inputs_text.specs.declared.refusal.Rule.TheVariants as rule
use Rattle.inputs_text.specs.Readings.{AreSingle, ArraysFound, FindsAll, FoundAt, RefusesLines, RefusesNames, ScalarsFound, array_names, scalar_names}
use Rattle.inputs_text.specs.Refusals.{IsFirstBroken, Says, refusal_by}
use Rattle.inputs_text.specs.Rules.{beside, entries, slots}
use Rattle.inputs_text.specs.Texts.{AreNamed, ArePatternsFor, FitHeader, InputText, header_names}
use Rattle.inputs_text.proofs.HeaderLemmas.{array_known, scalar_known}
use Rattle.inputs_text.proofs.MissingLemmas.{find_same, none_missing}

-- what is found for a name of the header is the patterns of numbers that lines give
found_numbers : (slot : Slot) (e : Option (List ℤ)) (f : Option (List ℕ)) (ps : List ℕ) → FoundAt (Some slot) e f → f ≡ Some ps
    → (zs : List ℤ) × (e ≡ Some zs) × (ps ≡ map (pattern slot.ty) zs) × (length zs ≡ slot.len)
found_numbers slot None f ps at is = let none : None ≡ Some ps = sym at ∙ is in cc
found_numbers slot (Some zs) f ps at is = let same : Some (map (pattern slot.ty) zs) ≡ Some ps = sym at.0 ∙ is in (zs, refl, cc, at.1)

same_none : (o : Option Slot) (e : Option (List ℤ)) (f : Option (List ℕ)) → FoundAt o e f → is_none f ≡ is_none e
same_none o None f at = ap is_none at
same_none None (Some zs) f at = absurd at
same_none (Some slot) (Some zs) f at = ap is_none at.0

module _ (below : (t : Ty) (z : ℤ) → pattern t z < 2 ^ ty_width t) where
  patterns_fit : (t : Ty) (zs : List ℤ) → All (IsPatternOf t) (map (pattern t) zs)
  patterns_fit t [] = All-nil (IsPatternOf t)
  patterns_fit t (z ∷ zs) = All-cons (IsPatternOf t) (pattern t z) (map (pattern t) zs) (below t z) (patterns_fit t zs)

  one_fits : (t : Ty) (p : ℕ) (zs : List ℤ) → p ∷ [] ≡ map (pattern t) zs → IsPatternOf t p
  one_fits t p [] e = cc
  one_fits t p (z ∷ zs) e = let same : pattern t z ≡ p = cc in subst (λ n. n < 2 ^ ty_width t) same (below t z)

  module _ (scalars : List Scalar) (arrays : List Array) (bytes : List ℕ) (found : List (List ℕ × List ℕ)) (named : AreNamed scalars arrays) (all : FindsAll (slots scalars arrays) bytes found) where
    known : (xs : List Scalar) (s : Scalar) (ys : List Scalar) → scalars ≡ xs ++ s ∷ ys → beside (slots scalars arrays) s.name ≡ Some (record { ty = s.ty; len = 1 })
    known xs s ys e = subst (λ l. beside (slots l arrays) s.name ≡ Some (record { ty = s.ty; len = 1 })) (sym e) (scalar_known xs s ys arrays (subst (λ l. AreNamed l arrays) e named))

    known_array : (xs : List Array) (a : Array) (ys : List Array) → arrays ≡ xs ++ a ∷ ys → beside (slots scalars arrays) a.name ≡ Some (record { ty = a.ty; len = a.len })
    known_array xs a ys e = subst (λ l. beside (slots scalars l) a.name ≡ Some (record { ty = a.ty; len = a.len })) (sym e) (array_known scalars xs a ys (subst (AreNamed scalars) e named))

    at_slot : (q : List ℕ) (slot : Slot) → beside (slots scalars arrays) q ≡ Some slot → FoundAt (Some slot) (beside (entries (lines bytes)) q) (beside found q)
    at_slot q slot is = subst (λ o. FoundAt o (beside (entries (lines bytes)) q) (beside found q)) is (all.all.at q)

    single_at : (slot : Slot) (q : List ℕ) → slot.len ≡ 1 → FoundAt (Some slot) (beside (entries (lines bytes)) q) (beside found q) → IfSome (beside found q) (λ ps. length ps ≡ 1)
    single_at slot q one = by (beside (entries (lines bytes)) q) (beside found q)
      where
        by : (e : Option (List ℤ)) (f : Option (List ℕ)) → FoundAt (Some slot) e f → IfSome f (λ ps. length ps ≡ 1)
        by e None at = tt
        by e (Some ps) at =
            let is = found_numbers slot e (Some ps) ps at refl in
            ap length is.2 ∙ length-map is.0 (pattern slot.ty) ∙ is.3 ∙ one

    single_from : (xs ys : List Scalar) → scalars ≡ xs ++ ys → AreSingle ys found
    single_from xs [] e = All-nil (λ (s : Scalar). IfSome (beside found s.name) (λ ps. length ps ≡ 1))
    single_from xs (s ∷ ys) e =
        All-cons (λ (x : Scalar). IfSome (beside found x.name) (λ ps. length ps ≡ 1)) s ys
        (single_at (record { ty = s.ty; len = 1 }) s.name refl (at_slot s.name (record { ty = s.ty; len = 1 }) (known xs s ys e)))
        (single_from (xs ++ s ∷ []) ys (e ∙ sym (append_assoc xs (s ∷ []) ys)))

    pub are_single : AreSingle scalars found
    are_single = single_from [] scalars refl

    scalars_said : (xs ys : List Scalar) (ps : List ℕ) → scalars ≡ xs ++ ys → ScalarsFound ys found ps
        → AllZip (λ (s : Scalar) p. ArePatternsFor (lines bytes) s.name s.ty (p ∷ [])) ys ps × AllZip (λ (s : Scalar) n. IsPatternOf s.ty n) ys ps
    scalars_said xs [] [] e is = (is, is)
    scalars_said xs [] (p ∷ ps) e is = absurd is
    scalars_said xs (s ∷ ys) [] e is = absurd is
    scalars_said xs (s ∷ ys) (p ∷ ps) e is =
        let here = found_numbers (record { ty = s.ty; len = 1 }) (beside (entries (lines bytes)) s.name) (beside found s.name) (p ∷ []) (at_slot s.name (record { ty = s.ty; len = 1 }) (known xs s ys e)) is.0 in
        let rest = scalars_said (xs ++ s ∷ []) ys ps (e ∙ sym (append_assoc xs (s ∷ []) ys)) is.1 in
        ((record { numbers = here.0; given = here.1; are = here.2 }, rest.0), (one_fits s.ty p here.0 here.2, rest.1))

    arrays_said : (xs ys : List Array) (pss : List (List ℕ)) → arrays ≡ xs ++ ys → ArraysFound ys found pss
        → AllZip (λ (a : Array) ps. ArePatternsFor (lines bytes) a.name a.ty ps) ys pss × AllZip AreElementsOf ys pss
    arrays_said xs [] [] e is = (is, is)
    arrays_said xs [] (ps ∷ pss) e is = absurd is
    arrays_said xs (a ∷ ys) [] e is = absurd is
    arrays_said xs (a ∷ ys) (ps ∷ pss) e is =
        let here = found_numbers (record { ty = a.ty; len = a.len }) (beside (entries (lines bytes)) a.name) (beside found a.name) ps (at_slot a.name (record { ty = a.ty; len = a.len }) (known_array xs a ys e)) is.0 in
        let rest = arrays_said (xs ++ a ∷ []) ys pss (e ∙ sym (append_assoc xs (a ∷ []) ys)) is.1 in (
          (record { numbers = here.0; given = here.1; are = here.2 }, rest.0),
          (record { len = ap length here.2 ∙ length-map here.0 (pattern a.ty) ∙ here.3; patterns = subst (All (IsPatternOf a.ty)) (sym here.2) (patterns_fit a.ty here.0) }, rest.1),
        )

    -- all names have lines
    module _ (ps : List ℕ) (pss : List (List ℕ)) (here : ScalarsFound scalars found ps) (there : ArraysFound arrays found pss) where
      pub says_inputs : InputText scalars arrays (record { scalars = ps; arrays = pss }) bytes
      says_inputs = record { rules = all.kept; each_scalar = (scalars_said [] scalars ps refl here).0; each_array = (arrays_said [] arrays pss refl there).0 }

      pub inputs_fit : FitHeader scalars arrays (record { scalars = ps; arrays = pss })
      inputs_fit = record { each_scalar = (scalars_said [] scalars ps refl here).1; each_array = (arrays_said [] arrays pss refl there).1 }

    -- one has none
    first_none : find (λ x. is_none (beside (entries (lines bytes)) x)) (header_names scalars arrays) ≡ option_or (find (λ x. is_none (beside found x)) (scalar_names scalars)) (find (λ x. is_none (beside found x)) (array_names arrays))
    first_none =
        sym (find_same (λ x. is_none (beside found x)) (λ x. is_none (beside (entries (lines bytes)) x)) (λ x. same_none (beside (slots scalars arrays) x) (beside (entries (lines bytes)) x) (beside found x) (all.all.at x)) (header_names scalars arrays))
        ∙ find-append (λ x. is_none (beside found x)) (scalar_names scalars) (array_names arrays)

    said_missing : (name : List ℕ) → find (λ x. is_none (beside (entries (lines bytes)) x)) (header_names scalars arrays) ≡ Some name → (r : InputRefusal) → r ≡ refusal.Missing name → Says scalars arrays bytes (Err r)
    said_missing name first r is = subst (λ x. Says scalars arrays bytes (Err x)) (sym is) (record { kept = all.kept; first = first })

    pub says_no_scalar : (r : InputRefusal) → RefusesNames (scalar_names scalars) found r → Says scalars arrays bytes (Err r)
    says_no_scalar r (inl memory) = subst (λ x. Says scalars arrays bytes (Err x)) (sym memory) tt
    says_no_scalar r (inr lacks) = said_missing lacks.name (first_none ∙ ap (λ o. option_or o (find (λ x. is_none (beside found x)) (array_names arrays))) lacks.first) r lacks.is

    pub says_no_array : (ps : List ℕ) → ScalarsFound scalars found ps → (r : InputRefusal) → RefusesNames (array_names arrays) found r → Says scalars arrays bytes (Err r)
    says_no_array ps here r (inl memory) = subst (λ x. Says scalars arrays bytes (Err x)) (sym memory) tt
    says_no_array ps here r (inr lacks) =
        said_missing lacks.name
        (first_none ∙ ap (λ o. option_or o (find (λ x. is_none (beside found x)) (array_names arrays))) (none_missing (λ (s : Scalar). s.name) (λ (p : ℕ). p ∷ []) found scalars ps here) ∙ lacks.first) r lacks.is

-- a line is refused
module _ (scalars : List Scalar) (arrays : List Array) (bytes : List ℕ) where
  by_rule : (broken : Rule) (n : ℕ) → IsFirstBroken (slots scalars arrays) (lines bytes) n broken → Says scalars arrays bytes (Err (refusal_by broken n))
  by_rule rule.Form n first = first
  by_rule rule.Unknown n first = first
  by_rule rule.Twice n first = first
  by_rule rule.Count n first = first
  by_rule rule.Range n first = first

  pub says_line : (r : InputRefusal) → RefusesLines (slots scalars arrays) bytes r → Says scalars arrays bytes (Err r)
  says_line r (inl memory) = subst (λ x. Says scalars arrays bytes (Err x)) (sym memory) tt
  says_line r (inr refused) = subst (λ x. Says scalars arrays bytes (Err x)) (sym refused.is) (by_rule refused.rule refused.number refused.first)

  pub says_memory : (r : InputRefusal) → r ≡ refusal.Memory → Says scalars arrays bytes (Err r)
  says_memory r memory = subst (λ x. Says scalars arrays bytes (Err x)) (sym memory) tt
