-- A text has one answer.
use Rattle.std.proofs.Common.{◌≡◌, ◌⊎◌, inl, inr, ℕ, ℤ, ◌+◌, List, [], ◌∷◌, ◌++◌, length, map, find, Option, Some, None, is_none, Result, Ok, Err, refl, sym, ap, ◌∙◌, cond}
use Rattle.std.specs.List.{AllZip}
use Rattle.std.specs.Str.Lines.{lines}
use Rattle.el_base.specs.declared.ty.Array.{Array}
use Rattle.el_base.specs.declared.ty.Scalar.{Scalar}
use Rattle.el_base.specs.Numbers.{pattern}
use Rattle.net_types.specs.declared.firing.Inputs.{Inputs}
use Rattle.inputs_text.specs.declared.refusal.InputRefusal.{InputRefusal}
use Rattle.inputs_text.specs.declared.refusal.InputRefusal.TheVariants as refusal
use Rattle.inputs_text.specs.declared.refusal.Rule.{Rule}
use Rattle.inputs_text.specs.declared.refusal.Rule.TheVariants as rule
use Rattle.inputs_text.specs.declared.header.Slot.{Slot}
use Rattle.inputs_text.specs.Refusals.{IsFirstBroken, IsMissing, IsOnly, Says, refusal_by}
use Rattle.inputs_text.specs.Rules.{KeepRules, beside, broken_by, entries, slots}
use Rattle.inputs_text.specs.Texts.{ArePatternsFor, InputText, IsOfOneInputs, header_names}
use Rattle.inputs_text.proofs.RunLemmas.{two_places}

-- one line is the first that breaks a rule, and by one rule
module _ (asked : List (List ℕ × Slot)) (ls : List (List ℕ)) where
  one_broken : (m n : ℕ) (r s : Rule) → IsFirstBroken asked ls m r → IsFirstBroken asked ls n s → (m ≡ n) × (r ≡ s)
  one_broken m n r s a b = elim (two_places a.before b.before a.line b.line a.after b.after (sym a.whole ∙ b.whole)) [
    | inl same ↦ (a.counted ∙ ap (λ p. length p + 1) same.0 ∙ sym b.counted, (let is : Some r ≡ Some s = sym a.breaks ∙ ap (λ p. broken_by asked p a.line) same.0 ∙ ap (broken_by asked b.before) same.1 ∙ b.breaks in cc))
    | inr other ↦ elim other [
      | inl w ↦ absurd (let no_rule : Some r ≡ None = sym a.breaks ∙ b.kept a.before a.line w.between w.is in cc)
      | inr w ↦ absurd (let no_rule : Some s ≡ None = sym b.breaks ∙ a.kept b.before b.line w.between w.is in cc)
    ]
  ]

  none_broken : (n : ℕ) (r : Rule) → IsFirstBroken asked ls n r → KeepRules asked ls → ⊥
  none_broken n r a kept = let no_rule : Some r ≡ None = sym a.breaks ∙ kept a.before a.line a.after a.whole in cc

-- patterns for a name are one list
one_list : (ls : List (List ℕ)) (a : Array) (ps qs : List ℕ) → ArePatternsFor ls a.name a.ty ps → ArePatternsFor ls a.name a.ty qs → ps ≡ qs
one_list ls a ps qs p q =
    let is : Some p.numbers ≡ Some q.numbers = sym p.given ∙ q.given in
    let same : p.numbers ≡ q.numbers = cc in
    p.are ∙ ap (map (pattern a.ty)) same ∙ sym q.are

one_pattern : (ls : List (List ℕ)) (s : Scalar) (p q : ℕ) → ArePatternsFor ls s.name s.ty (p ∷ []) → ArePatternsFor ls s.name s.ty (q ∷ []) → p ≡ q
one_pattern ls s p q a b =
    let is : Some a.numbers ≡ Some b.numbers = sym a.given ∙ b.given in
    let same : a.numbers ≡ b.numbers = cc in
    let lists : p ∷ [] ≡ q ∷ [] = a.are ∙ ap (map (pattern s.ty)) same ∙ sym b.are in cc

zip_one : {A B : Type 0} (R : A → B → Type 0) → ((a : A) (x y : B) → R a x → R a y → x ≡ y) → (as' : List A) (xs ys : List B) → AllZip R as' xs → AllZip R as' ys → xs ≡ ys
zip_one R one [] [] [] p q = refl
zip_one R one [] [] (y ∷ ys) p q = absurd q
zip_one R one [] (x ∷ xs) ys p q = absurd p
zip_one R one (a ∷ more) [] ys p q = absurd p
zip_one R one (a ∷ more) (x ∷ xs) [] p q = absurd q
zip_one R one (a ∷ more) (x ∷ xs) (y ∷ ys) p q = let first : x ≡ y = one a x y p.0 q.0 in let rest : xs ≡ ys = zip_one R one more xs ys p.1 q.1 in cc

pub one_inputs : IsOfOneInputs
one_inputs scalars arrays a b bytes p q =
    let first : a.scalars ≡ b.scalars = zip_one (λ (s : Scalar) n. ArePatternsFor (lines bytes) s.name s.ty (n ∷ [])) (one_pattern (lines bytes)) scalars a.scalars b.scalars p.each_scalar q.each_scalar in
    let second : a.arrays ≡ b.arrays = zip_one (λ (x : Array) ps. ArePatternsFor (lines bytes) x.name x.ty ps) (one_list (lines bytes)) arrays a.arrays b.arrays p.each_array q.each_array in
    λ i. record { scalars = first i; arrays = second i }

module _ (scalars : List Scalar) (arrays : List Array) (bytes : List ℕ) where
  -- where a text has inputs each name has a line
  all_given : (inputs : Inputs) → InputText scalars arrays inputs bytes → find (λ x. is_none (beside (entries (lines bytes)) x)) (header_names scalars arrays) ≡ None
  all_given inputs text = from_scalars scalars inputs.scalars text.each_scalar
    where
      given_is : (e : Option (List ℤ)) (zs : List ℤ) → e ≡ Some zs → is_none e ≡ is_none {T = List ℤ} (Some zs)
      given_is e zs is = ap is_none is

      from_arrays : (xs : List Array) (pss : List (List ℕ)) → AllZip (λ (a : Array) ps. ArePatternsFor (lines bytes) a.name a.ty ps) xs pss → find (λ x. is_none (beside (entries (lines bytes)) x)) (map (λ (a : Array). a.name) xs) ≡ None
      from_arrays [] pss all = refl
      from_arrays (a ∷ xs) [] all = absurd all
      from_arrays (a ∷ xs) (ps ∷ pss) all =
          ap (λ o. cond (is_none o) (Some a.name) (find (λ x. is_none (beside (entries (lines bytes)) x)) (map (λ (y : Array). y.name) xs))) all.0.given ∙ from_arrays xs pss all.1

      from_scalars : (xs : List Scalar) (ps : List ℕ) → AllZip (λ (s : Scalar) p. ArePatternsFor (lines bytes) s.name s.ty (p ∷ [])) xs ps → find (λ x. is_none (beside (entries (lines bytes)) x)) (map (λ (s : Scalar). s.name) xs ++ map (λ (a : Array). a.name) arrays) ≡ None
      from_scalars [] ps all = from_arrays arrays inputs.arrays text.each_array
      from_scalars (s ∷ xs) [] all = absurd all
      from_scalars (s ∷ xs) (p ∷ ps) all =
          ap (λ o. cond (is_none o) (Some s.name) (find (λ x. is_none (beside (entries (lines bytes)) x)) (map (λ (y : Scalar). y.name) xs ++ map (λ (a : Array). a.name) arrays))) all.0.given ∙ from_scalars xs ps all.1

  -- an answer is want of memory, or is of a line, of a name, or of the whole text
  record OfLine (r : Result Inputs InputRefusal) : Type 0 where
    number : ℕ
    broken : Rule
    is : r ≡ Err (refusal_by broken number)
    first : IsFirstBroken (slots scalars arrays) (lines bytes) number broken

  record OfName (r : Result Inputs InputRefusal) : Type 0 where
    name : List ℕ
    is : r ≡ Err (refusal.Missing name)
    missing : IsMissing scalars arrays (lines bytes) name

  record OfText (r : Result Inputs InputRefusal) : Type 0 where
    inputs : Inputs
    is : r ≡ Ok inputs
    text : InputText scalars arrays inputs bytes

  kind_of : (r : Result Inputs InputRefusal) → Says scalars arrays bytes r → (r ≡ Err refusal.Memory) ⊎ (OfLine r ⊎ (OfName r ⊎ OfText r))
  kind_of (Ok inputs) says = inr (inr (inr (record { inputs = inputs; is = refl; text = says })))
  kind_of (Err (refusal.Line n)) says = inr (inl (record { number = n; broken = rule.Form; is = refl; first = says }))
  kind_of (Err (refusal.Unknown n)) says = inr (inl (record { number = n; broken = rule.Unknown; is = refl; first = says }))
  kind_of (Err (refusal.Twice n)) says = inr (inl (record { number = n; broken = rule.Twice; is = refl; first = says }))
  kind_of (Err (refusal.Missing name)) says = inr (inr (inl (record { name = name; is = refl; missing = says })))
  kind_of (Err (refusal.Count n)) says = inr (inl (record { number = n; broken = rule.Count; is = refl; first = says }))
  kind_of (Err (refusal.Range n)) says = inr (inl (record { number = n; broken = rule.Range; is = refl; first = says }))
  kind_of (Err refusal.Memory) says = inl refl

  one_kind : (r s : Result Inputs InputRefusal) → OfLine r ⊎ (OfName r ⊎ OfText r) → OfLine s ⊎ (OfName s ⊎ OfText s) → r ≡ s
  one_kind r s (inl a) (inl b) =
      let same = one_broken (slots scalars arrays) (lines bytes) a.number b.number a.broken b.broken a.first b.first in
      a.is ∙ ap (λ n. Err (refusal_by a.broken n)) same.0 ∙ ap (λ x. Err (refusal_by x b.number)) same.1 ∙ sym b.is
  one_kind r s (inl a) (inr (inl b)) = absurd (none_broken (slots scalars arrays) (lines bytes) a.number a.broken a.first b.missing.kept)
  one_kind r s (inl a) (inr (inr b)) = absurd (none_broken (slots scalars arrays) (lines bytes) a.number a.broken a.first b.text.rules)
  one_kind r s (inr (inl a)) (inl b) = absurd (none_broken (slots scalars arrays) (lines bytes) b.number b.broken b.first a.missing.kept)
  one_kind r s (inr (inl a)) (inr (inl b)) =
      let is : Some a.name ≡ Some b.name = sym a.missing.first ∙ b.missing.first in
      let same : a.name ≡ b.name = cc in
      a.is ∙ ap (λ n. Err (refusal.Missing n)) same ∙ sym b.is
  one_kind r s (inr (inl a)) (inr (inr b)) = absurd (let none : Some a.name ≡ None = sym a.missing.first ∙ all_given b.inputs b.text in cc)
  one_kind r s (inr (inr a)) (inl b) = absurd (none_broken (slots scalars arrays) (lines bytes) b.number b.broken b.first a.text.rules)
  one_kind r s (inr (inr a)) (inr (inl b)) = absurd (let none : Some b.name ≡ None = sym b.missing.first ∙ all_given a.inputs a.text in cc)
  one_kind r s (inr (inr a)) (inr (inr b)) = a.is ∙ ap Ok (one_inputs scalars arrays a.inputs b.inputs bytes a.text b.text) ∙ sym b.is

  pub only_answer : (r : Result Inputs InputRefusal) → Says scalars arrays bytes r → IsOnly scalars arrays bytes r
  only_answer r says other some said = elim (kind_of r says) [
    | inl memory ↦ inr memory
    | inr a ↦ elim (kind_of other said) [ inl memory ↦ absurd (some memory) | inr b ↦ inl (one_kind r other a b) ]
  ]
