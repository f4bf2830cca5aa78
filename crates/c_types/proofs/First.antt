-- The first of a list of faults is one of them, before which none of them goes; and there is none only where the list is empty.
use Rattle.std.proofs.Common.{◌≡◌, ℕ, Bool, true, false, nat_lt, if◌then◌else◌, List, [], ◌∷◌, All, Option, Some, None, refl, sym, subst, ◌∙◌, arith}
use Rattle.std.proofs.lemmas.Bool.Decides.{nat_tests}
use Rattle.std.proofs.lemmas.List.Elements.{All-nil, All-cons, All-weaker, Contains-append_right}
use Rattle.c_types.specs.declared.fault.Fault.{Fault}
use Rattle.c_types.specs.Places.{is_before, IsFirst, earlier, first_of}
use Rattle.c_types.proofs.FirstFaults.{key, before_by_key}

never_none : (f g : Fault) (b : Bool) → (if b then Some g else Some f) ≡ None → ⊥
never_none f g true h = absurd (cc)
never_none f g false h = absurd (cc)

pub none_is_empty : (fs : List Fault) → first_of fs ≡ None → fs ≡ []
none_is_empty [] h = refl
none_is_empty (f ∷ fs) h = by (first_of fs) h
  where
    by : (r : Option Fault) → earlier (Some f) r ≡ None → f ∷ fs ≡ []
    by None h = absurd (cc)
    by (Some g) h = absurd (never_none f g (is_before g f) h)

not_itself : (f : Fault) → is_before f f ≡ false
not_itself f = before_by_key f f ∙ same (key f)
  where
    same : (a : ℕ) → nat_lt a a ≡ false
    same a = grind (arith, nat_tests)

not_back : (f g : Fault) → is_before f g ≡ true → is_before g f ≡ false
not_back f g h = before_by_key g f ∙ back (key f) (key g) (sym (before_by_key f g) ∙ h)
  where
    back : (a b : ℕ) → nat_lt a b ≡ true → nat_lt b a ≡ false
    back a b h = grind (arith, nat_tests)

not_through : (f g h : Fault) → is_before f g ≡ false → is_before g h ≡ false → is_before f h ≡ false
not_through f g h p q = before_by_key f h ∙ through (key f) (key g) (key h) (sym (before_by_key f g) ∙ p) (sym (before_by_key g h) ∙ q)
  where
    through : (a b c : ℕ) → nat_lt a b ≡ false → nat_lt b c ≡ false → nat_lt a c ≡ false
    through a b c p q = grind (arith, nat_tests)

-- the first of one fault and of those after it
first_of_more : (f g : Fault) (gs : List Fault) (r : Option Fault) → first_of gs ≡ r → ((h : Fault) → first_of gs ≡ Some h → IsFirst h gs) → earlier (Some g) r ≡ Some f → IsFirst f (g ∷ gs)
first_of_more f g gs None is rest h =
    let same : g ≡ f = cc in
    let empty : gs ≡ [] = none_is_empty gs is in
    subst (λ f. IsFirst f (g ∷ gs)) same (record {
      one_of_them = (0, omega arith, refl);
      none_before = All-cons (λ k. is_before k g ≡ false) g gs (not_itself g) (subst (All (λ k. is_before k g ≡ false)) (sym empty) (All-nil (λ k. is_before k g ≡ false)));
    })
first_of_more f g gs (Some k) is rest h = by (is_before k g) refl h
  where
    by : (b : Bool) → is_before k g ≡ b → (if b then Some k else Some g) ≡ Some f → IsFirst f (g ∷ gs)
    by true before h =
        let same : k ≡ f = cc in
        subst (λ f. IsFirst f (g ∷ gs)) same (record {
          one_of_them = Contains-append_right (g ∷ []) gs k ((rest k is).one_of_them);
          none_before = All-cons (λ i. is_before i k ≡ false) g gs (not_back k g before) ((rest k is).none_before);
        })
    by false before h =
        let same : g ≡ f = cc in
        subst (λ f. IsFirst f (g ∷ gs)) same (record {
          one_of_them = (0, omega arith, refl);
          none_before = All-cons (λ i. is_before i g ≡ false) g gs (not_itself g)
              (All-weaker (λ i. is_before i k ≡ false) (λ i. is_before i g ≡ false) (λ i p. not_through i k g p before) gs ((rest k is).none_before));
        })

pub first_is : (fs : List Fault) (f : Fault) → first_of fs ≡ Some f → IsFirst f fs
first_is [] f h = absurd (cc)
first_is (g ∷ gs) f h = first_of_more f g gs (first_of gs) refl (first_is gs) h
