-- Lines that keep the rules one after another, and the first that breaks one.
use Rattle.std.proofs.Common.{◌≡◌, ◌⊎◌, inl, inr, ℕ, ℤ, ◌+◌, ◌<◌, ◌≤◌, List, [], ◌∷◌, ◌++◌, length, Option, Some, None, refl, sym, ap, ◌∙◌, subst, append_assoc, append-nil, arith}
use Rattle.std.proofs.lemmas.List.{length-append}
use Rattle.std.proofs.lemmas.List.Elements.{filter_map-append}
use Rattle.std.specs.List.{cons_option}
use Rattle.std.specs.Option.{option_to_list}
use Rattle.std.specs.Str.Lines.{lines}
use Rattle.inputs_text.specs.declared.header.Slot.{Slot}
use Rattle.inputs_text.specs.declared.refusal.InputRefusal.{InputRefusal}
use Rattle.inputs_text.specs.declared.refusal.Rule.{Rule}
use Rattle.inputs_text.specs.Readings.{FindsAll, HasFound, IsLineJudged, IsLineRefused, JudgesLine}
use Rattle.inputs_text.specs.Refusals.{refusal_by}
use Rattle.inputs_text.specs.Rules.{KeepRules, beside, broken_by, entries, given}

-- two places in one list: they are one, or one stands in what is before the other
module _ {T : Type 0} where
  pub record Within (before : List T) (x : T) (whole : List T) : Type 0 where
    pub between : List T
    pub is : whole ≡ before ++ x ∷ between

  pub two_places : (ms ns : List T) (x y : T) (cs ds : List T) → ms ++ x ∷ cs ≡ ns ++ y ∷ ds
      → ((ms ≡ ns) × (x ≡ y)) ⊎ (Within ms x ns ⊎ Within ns y ms)
  two_places [] [] x y cs ds e = inl (refl, cc)
  two_places [] (b ∷ ns) x y cs ds e =
      let same : x ≡ b = cc in inr (inl (record { between = ns; is = ap (λ z. z ∷ ns) (sym same) }))
  two_places (a ∷ ms) [] x y cs ds e =
      let same : a ≡ y = cc in inr (inr (record { between = ms; is = ap (λ z. z ∷ ms) same }))
  two_places (a ∷ ms) (b ∷ ns) x y cs ds e =
      let first : a ≡ b = cc in
      let rest : ms ++ x ∷ cs ≡ ns ++ y ∷ ds = cc in
      elim (two_places ms ns x y cs ds rest) [
        | inl same ↦ inl (later first same.0, same.1)
        | inr other ↦ inr (elim other [
          | inl w ↦ inl (record { between = w.between; is = later (sym first) w.is })
          | inr w ↦ inr (record { between = w.between; is = later first w.is })
        ])
      ]
    where
      later : {u v : T} {us vs : List T} → u ≡ v → us ≡ vs → u ∷ us ≡ v ∷ vs
      later e r = λ i. e i ∷ r i

-- lines that keep the rules, and one more that does
pub keep_none : (asked : List (List ℕ × Slot)) → KeepRules asked []
keep_none asked [] line after e = cc
keep_none asked (b ∷ before) line after e = cc

pub keep_more : (asked : List (List ℕ × Slot)) (ls : List (List ℕ)) (line : List ℕ) → KeepRules asked ls → broken_by asked ls line ≡ None → KeepRules asked (ls ++ line ∷ [])
keep_more asked ls line kept none before l after e = elim (two_places ls before line l [] after e) [
  | inl same ↦ subst (λ p. broken_by asked p l ≡ None) same.0 (subst (λ x. broken_by asked ls x ≡ None) same.1 none)
  | inr other ↦ elim other [
    | inl w ↦ absurd (let long : length (ls ++ line ∷ []) ≡ length (before ++ l ∷ after) = ap length e in
        omega (arith, long, ap length w.is, length-append ls (line ∷ []), length-append before (l ∷ after), length-append ls (line ∷ w.between)))
    | inr w ↦ kept before l w.between w.is
  ]
]

-- what one line more gives
one_given : (o : Option (List ℕ × List ℤ)) → cons_option o [] ≡ option_to_list o
one_given None = refl
one_given (Some e) = refl

pub entries_more : (ls : List (List ℕ)) (line : List ℕ) → entries (ls ++ line ∷ []) ≡ entries ls ++ option_to_list (given line)
unfolding entries
entries_more ls line = filter_map-append given ls (line ∷ []) ∙ ap (λ es. entries ls ++ es) (one_given (given line))

pub entries_none : entries [] ≡ []
unfolding entries
entries_none = refl

-- the lines before the rest of a text keep the rules, and what they give is found
pub record LinesSoFar (asked : List (List ℕ × Slot)) (bytes rest : List ℕ) (found : List (List ℕ × List ℕ)) (number : ℕ) : Type 0 where
  pub done : List (List ℕ)
  pub whole : lines bytes ≡ done ++ lines rest
  pub kept : KeepRules asked done
  pub has : HasFound asked (entries done) found
  pub counted : number ≡ length done
  pub room : number + length rest ≤ length bytes

pub so_far_none : (asked : List (List ℕ × Slot)) (bytes : List ℕ) (found : List (List ℕ × List ℕ)) → found ≡ [] → LinesSoFar asked bytes bytes found 0
so_far_none asked bytes found none = record {
  done = [];
  whole = refl;
  kept = keep_none asked;
  has = subst (λ es. HasFound asked es found) (sym entries_none) (record { at = λ q. ap (λ es. beside es q) none });
  counted = refl;
  room = omega arith;
}

module _ (asked : List (List ℕ × Slot)) (bytes rest : List ℕ) (found : List (List ℕ × List ℕ)) (number : ℕ) (so_far : LinesSoFar asked bytes rest found number) where
  pub so_far_all : lines rest ≡ [] → FindsAll asked bytes found
  so_far_all none =
      let whole : so_far.done ≡ lines bytes = sym (so_far.whole ∙ ap (λ ls. so_far.done ++ ls) none ∙ append-nil so_far.done) in
      record { kept = subst (KeepRules asked) whole so_far.kept; all = subst (λ ls. HasFound asked (entries ls) found) whole so_far.has }

  module _ (line after : List ℕ) (next : lines rest ≡ line ∷ lines after) (new : List (List ℕ × List ℕ)) (o : Option Rule) (judges : JudgesLine asked line found new o) where
    judged : IsLineJudged asked (entries so_far.done) line new o
    judged = judges (entries so_far.done) so_far.has

    pub so_far_broken : (rule : Rule) → o ≡ Some rule → (r : InputRefusal) → r ≡ refusal_by rule (number + 1) → IsLineRefused asked bytes r
    so_far_broken rule some r is = record {
      number = number + 1;
      rule = rule;
      is = is;
      first = record {
        before = so_far.done;
        line = line;
        after = lines after;
        whole = so_far.whole ∙ ap (λ ls. so_far.done ++ ls) next;
        counted = ap (λ n. n + 1) so_far.counted;
        kept = so_far.kept;
        breaks = sym judged.broken ∙ some;
      };
    }

    pub so_far_more : o ≡ None → length after < length rest → LinesSoFar asked bytes after new (number + 1)
    so_far_more none shorter = record {
      done = so_far.done ++ line ∷ [];
      whole = so_far.whole ∙ ap (λ ls. so_far.done ++ ls) next ∙ sym (append_assoc so_far.done (line ∷ []) (lines after));
      kept = keep_more asked so_far.done line so_far.kept (sym judged.broken ∙ none);
      has = subst (λ es. HasFound asked es new) (sym (entries_more so_far.done line)) (judged.kept none);
      counted = ap (λ n. n + 1) so_far.counted ∙ sym (length-append so_far.done (line ∷ []));
      room = omega (arith, so_far.room, shorter);
    }
