-- What stands beside names, and what is found after one entry more.
use Rattle.std.proofs.Common.{◌≡◌, ℕ, ℤ, eqb, cond, Bool, true, false, List, [], ◌∷◌, ◌++◌, length, map, Option, Some, None, is_some, refl, sym, ap, ◌∙◌, subst, true≢false, eq-eqb, arith}
use Rattle.std.proofs.lemmas.Bool.{ne_eqb}
use Rattle.std.proofs.lemmas.List.{take_all, length-map}
use Rattle.std.proofs.lemmas.Option.{none-some}
use Rattle.std.specs.Cmp.Lexicographic.{pointwise, bytes_decides}
use Rattle.std.specs.List.{list_all}
use Rattle.el_base.specs.Numbers.{pattern}
use Rattle.inputs_text.specs.declared.header.Slot.{Slot}
use Rattle.inputs_text.specs.declared.numerals.Numbers.{Numbers}
use Rattle.inputs_text.specs.declared.refusal.Rule.{Rule}
use Rattle.inputs_text.specs.declared.refusal.Rule.TheVariants as rule
use Rattle.inputs_text.specs.Lines.{entry_of}
use Rattle.inputs_text.specs.Measures.{Measures}
use Rattle.inputs_text.specs.Readings.{FoundAt, HasFound, IsJudged}
use Rattle.inputs_text.specs.Rules.{beside, broken_by_numbers, is_in_range}

abbrev pub same_name : List ℕ → List ℕ → Bool
same_name = pointwise eqb

pub same_name-true : (x y : List ℕ) → same_name x y ≡ true → x ≡ y
same_name-true x y h = (bytes_decides x y).0 h

pub same_name-self : (x : List ℕ) → same_name x x ≡ true
same_name-self x = (bytes_decides x x).1 refl

pub same_name-false : (x y : List ℕ) → (x ≡ y → ⊥) → same_name x y ≡ false
same_name-false x y apart = by (same_name x y) refl
  where
    by : (b : Bool) → same_name x y ≡ b → same_name x y ≡ false
    by true e = absurd (apart (same_name-true x y e))
    by false e = e

pub same_name-swap : (x y : List ℕ) → same_name x y ≡ same_name y x
same_name-swap x y = by (same_name y x) refl
  where
    by : (b : Bool) → same_name y x ≡ b → same_name x y ≡ same_name y x
    by true e = subst (λ z. same_name x z ≡ same_name z x) (sym (same_name-true y x e)) refl
    by false e = same_name-false x y (λ same. true≢false (sym (same_name-self x) ∙ ap (λ z. same_name z x) same ∙ e)) ∙ sym e

-- what stands beside a name after one entry more of a new name
module _ {T : Type 0} (name : List ℕ) (x : T) where
  pub beside-push : (es : List (List ℕ × T)) (q : List ℕ) → beside es name ≡ None → beside (es ++ (name, x) ∷ []) q ≡ cond (same_name name q) (Some x) (beside es q)
  beside-push [] q none = ap (λ b. cond b (Some x) None) (same_name-swap q name)
  beside-push (e ∷ es) q none = by (same_name q e.0) refl (same_name name e.0) refl none (beside-push es q)
    where
      by : (b : Bool) → same_name q e.0 ≡ b → (c : Bool) → same_name name e.0 ≡ c → cond (same_name name e.0) (Some e.1) (beside es name) ≡ None
          → (beside es name ≡ None → beside (es ++ (name, x) ∷ []) q ≡ cond (same_name name q) (Some x) (beside es q))
          → beside ((e ∷ es) ++ (name, x) ∷ []) q ≡ cond (same_name name q) (Some x) (beside (e ∷ es) q)
      by b p true r h rest = absurd (none-some e.1 (sym h ∙ ap (λ v. cond v (Some e.1) (beside es name)) r))
      by true p false r h rest =
          let other : same_name name q ≡ false = same_name-false name q (λ same. true≢false (sym p ∙ ap (λ z. same_name z e.0) (sym same) ∙ r)) in
          rw (p, other) refl
      by false p false r h rest = ap (λ v. cond v (Some e.1) (beside (es ++ (name, x) ∷ []) q)) p ∙ rest (sym (ap (λ v. cond v (Some e.1) (beside es name)) r) ∙ h)
          ∙ ap (λ o. cond (same_name name q) (Some x) o) (sym (ap (λ v. cond v (Some e.1) (beside es q)) p))

pub none_there : {T : Type 0} (o : Option T) → is_some o ≡ false → o ≡ None
none_there None h = refl
none_there (Some x) h = absurd (true≢false h)

-- an entry of a name is judged
module _ (asked : List (List ℕ × Slot)) (earlier : List (List ℕ × List ℤ)) (name : List ℕ) (old : List (List ℕ × List ℕ)) (has : HasFound asked earlier old) (new : List (List ℕ × List ℕ)) where
  pub judged_form : (numbers : Option (List ℤ)) → numbers ≡ None → IsJudged asked earlier (entry_of (Some name) numbers) new (Some rule.Form)
  judged_form numbers none = subst (λ ns. IsJudged asked earlier (entry_of (Some name) ns) new (Some rule.Form)) (sym none) (record { broken = refl; kept = λ e. cc })

  judged_at : (zs : List ℤ) (o : Option Rule) → o ≡ broken_by_numbers (beside asked name) (beside earlier name) zs → (o ≡ None → HasFound asked (earlier ++ (name, zs) ∷ []) new)
      → (numbers : Option (List ℤ)) → numbers ≡ Some zs → IsJudged asked earlier (entry_of (Some name) numbers) new o
  judged_at zs o broken kept numbers there = subst (λ ns. IsJudged asked earlier (entry_of (Some name) ns) new o) (sym there) (record { broken = broken; kept = kept })

  -- the header has not the name
  pub judged_unknown : beside asked name ≡ None → (numbers : Option (List ℤ)) → is_some numbers ≡ true → IsJudged asked earlier (entry_of (Some name) numbers) new (Some rule.Unknown)
  judged_unknown unknown None some = absurd (true≢false (sym some))
  judged_unknown unknown (Some zs) some = judged_at zs (Some rule.Unknown) (ap (λ o. broken_by_numbers o (beside earlier name) zs) (sym unknown)) (λ e. cc) (Some zs) refl

  -- it has
  module _ (slot : Slot) (known : beside asked name ≡ Some slot) where
    by_slot : (e : Option (List ℤ)) (zs : List ℤ) → beside earlier name ≡ e → broken_by_numbers (beside asked name) (beside earlier name) zs ≡ broken_by_numbers (Some slot) e zs
    by_slot e zs is = rw (known, is) refl

    pub judged_twice : is_some (beside old name) ≡ true → (zs : List ℤ) (numbers : Option (List ℤ)) → numbers ≡ Some zs → IsJudged asked earlier (entry_of (Some name) numbers) new (Some rule.Twice)
    judged_twice there zs = by (beside asked name) (beside earlier name) refl (has.at name)
      where
        by : (o : Option Slot) (e : Option (List ℤ)) → beside earlier name ≡ e → FoundAt o e (beside old name) → (numbers : Option (List ℤ)) → numbers ≡ Some zs → IsJudged asked earlier (entry_of (Some name) numbers) new (Some rule.Twice)
        by o None is f = absurd (true≢false (sym there ∙ ap is_some f))
        by o (Some others) is f = judged_at zs (Some rule.Twice) (sym (by_slot (Some others) zs is)) (λ e. cc)

    -- no earlier line has it
    module _ (new_here : is_some (beside old name) ≡ false) where
      none_earlier : beside earlier name ≡ None
      none_earlier = by (beside asked name) (beside earlier name) refl (has.at name)
        where
          by : (o : Option Slot) (e : Option (List ℤ)) → beside earlier name ≡ e → FoundAt o e (beside old name) → beside earlier name ≡ None
          by o None is f = is
          by None (Some zs) is f = absurd f
          by (Some s) (Some zs) is f = absurd (true≢false (sym (ap is_some f.0) ∙ new_here))

      -- numbers are read
      module _ (zs : List ℤ) (n : Numbers) (measured : Measures slot zs n) (numbers : Option (List ℤ)) (there : numbers ≡ Some zs) where
        answer : Bool → Bool → Option Rule
        answer as_many held = cond as_many (cond held None (Some rule.Range)) (Some rule.Count)

        judged_by : (b c : Bool) → eqb (length zs) slot.len ≡ b → list_all (is_in_range slot.ty) zs ≡ c → (o : Option Rule) → o ≡ cond b (cond c None (Some rule.Range)) (Some rule.Count) → (o ≡ None → HasFound asked (earlier ++ (name, zs) ∷ []) new)
            → IsJudged asked earlier (entry_of (Some name) numbers) new o
        judged_by b c many held o is kept =
            judged_at zs o (is ∙ sym (by_slot None zs none_earlier ∙ ap (λ v. cond v (cond (list_all (is_in_range slot.ty) zs) None (Some rule.Range)) (Some rule.Count)) many ∙ ap (λ v. cond b (cond v None (Some rule.Range)) (Some rule.Count)) held)) kept numbers there

        pub judged_count : (n.count ≡ slot.len → ⊥) → IsJudged asked earlier (entry_of (Some name) numbers) new (Some rule.Count)
        judged_count other = judged_by false (list_all (is_in_range slot.ty) zs) (ne_eqb (length zs) slot.len (λ e. other (measured.count ∙ e))) refl (Some rule.Count) refl (λ e. cc)

        pub judged_range : n.count ≡ slot.len → n.in_range ≡ false → IsJudged asked earlier (entry_of (Some name) numbers) new (Some rule.Range)
        judged_range same out = judged_by true false (eq-eqb (length zs) slot.len (sym measured.count ∙ same)) (sym measured.in_range ∙ out) (Some rule.Range) refl (λ e. cc)

        pub judged_kept : n.count ≡ slot.len → n.in_range ≡ true → ((q : List ℕ) → beside new q ≡ cond (same_name name q) (Some n.patterns) (beside old q)) → IsJudged asked earlier (entry_of (Some name) numbers) new None
        judged_kept same held updates = judged_by true true (eq-eqb (length zs) slot.len long) (sym measured.in_range ∙ held) None refl (λ _. record { at = λ q. found q })
          where
            long : length zs ≡ slot.len
            long = sym measured.count ∙ same

            patterns : n.patterns ≡ map (pattern slot.ty) zs
            patterns = measured.patterns held ∙ take_all slot.len (map (pattern slot.ty) zs) (omega (arith, length-map zs (pattern slot.ty), long))

            by : (q : List ℕ) (b : Bool) → same_name name q ≡ b → FoundAt (beside asked q) (cond b (Some zs) (beside earlier q)) (cond b (Some n.patterns) (beside old q))
            by q true e = subst (λ x. FoundAt (beside asked x) (Some zs) (Some n.patterns)) (same_name-true name q e) (rw known (ap Some patterns, long))
            by q false e = has.at q

            found : (q : List ℕ) → FoundAt (beside asked q) (beside (earlier ++ (name, zs) ∷ []) q) (beside new q)
            found q = rw (beside-push name zs earlier q none_earlier, updates q) (by q (same_name name q) refl)
