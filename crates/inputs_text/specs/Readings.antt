-- What the parts of the reader say: private to the crate.
use Rattle.std.specs.Prelude.{◌≡◌, ◌⊎◌, ℕ, ℤ, ◌<◌, ◌≤◌, List, [], ◌∷◌, ◌++◌, length, map, find, is_none, IfSome, Option, Some, None, if◌then◌else◌}
use Rattle.std.specs.Option.{option_to_list}
use Rattle.std.specs.List.{All, AllZip}
use Rattle.std.specs.Str.Lines.{lines}
use Rattle.el_base.specs.declared.ty.Array.{Array}
use Rattle.el_base.specs.declared.ty.Scalar.{Scalar}
use Rattle.el_base.specs.Numbers.{pattern}
use Rattle.inputs_text.specs.declared.header.Slot.{Slot}
use Rattle.inputs_text.specs.declared.refusal.InputRefusal.{InputRefusal}
use Rattle.inputs_text.specs.declared.refusal.InputRefusal.TheVariants as refusal
use Rattle.inputs_text.specs.declared.refusal.Rule.{Rule}
use Rattle.inputs_text.specs.Lines.{is_skipped, line_entry, entry_of}
use Rattle.inputs_text.specs.Refusals.{IsFirstBroken, refusal_by}
use Rattle.inputs_text.specs.Rules.{KeepRules, beside, broken_by_entry, entries, given}

-- the first line of a text, and what follows it
pub record IsNextLine (bytes line after : List ℕ) : Type 0 where
  pub is : lines bytes ≡ line ∷ lines after
  pub shorter : length after < length bytes
  pub within : length line ≤ length bytes

-- what is found for a name is the patterns, in its type, of the numbers that lines give, as many as are asked for
abbrev pub FoundAt : Option Slot → Option (List ℤ) → Option (List ℕ) → Type 0
FoundAt slot None found = found ≡ None
FoundAt None (Some zs) found = ⊥
FoundAt (Some slot) (Some zs) found = (found ≡ Some (map (pattern slot.ty) zs)) × (length zs ≡ slot.len)

-- the same for each name
pub record HasFound (asked : List (List ℕ × Slot)) (earlier : List (List ℕ × List ℤ)) (found : List (List ℕ × List ℕ)) : Type 0 where
  pub at : (q : List ℕ) → FoundAt (beside asked q) (beside earlier q) (beside found q)

-- an entry of a name is judged after others: which rule it breaks first, and where none, its patterns are found
pub record IsJudged (asked : List (List ℕ × Slot)) (earlier : List (List ℕ × List ℤ)) (entry : Option (List ℕ × List ℤ)) (new : List (List ℕ × List ℕ)) (o : Option Rule) : Type 0 where
  pub broken : o ≡ broken_by_entry asked earlier entry
  pub kept : o ≡ None → HasFound asked (earlier ++ option_to_list entry) new

-- whatever was given before
abbrev pub JudgesEntry : List (List ℕ × Slot) → List ℕ → Option (List ℤ) → List (List ℕ × List ℕ) → List (List ℕ × List ℕ) → Option Rule → Type 0
JudgesEntry asked name numbers old new o = (earlier : List (List ℕ × List ℤ)) → HasFound asked earlier old → IsJudged asked earlier (entry_of (Some name) numbers) new o

-- whatever header has the name
abbrev pub JudgesKnown : Slot → List ℕ → Option (List ℤ) → List (List ℕ × List ℕ) → List (List ℕ × List ℕ) → Option Rule → Type 0
JudgesKnown slot name numbers old new o = (asked : List (List ℕ × Slot)) → beside asked name ≡ Some slot → JudgesEntry asked name numbers old new o

-- a line is judged after others
pub record IsLineJudged (asked : List (List ℕ × Slot)) (earlier : List (List ℕ × List ℤ)) (line : List ℕ) (new : List (List ℕ × List ℕ)) (o : Option Rule) : Type 0 where
  pub broken : o ≡ (if is_skipped line then None else broken_by_entry asked earlier (line_entry line))
  pub kept : o ≡ None → HasFound asked (earlier ++ option_to_list (given line)) new

abbrev pub JudgesLine : List (List ℕ × Slot) → List ℕ → List (List ℕ × List ℕ) → List (List ℕ × List ℕ) → Option Rule → Type 0
JudgesLine asked line old new o = (earlier : List (List ℕ × List ℤ)) → HasFound asked earlier old → IsLineJudged asked earlier line new o

-- all lines keep the rules, and what they give is found
pub record FindsAll (asked : List (List ℕ × Slot)) (bytes : List ℕ) (found : List (List ℕ × List ℕ)) : Type 0 where
  pub kept : KeepRules asked (lines bytes)
  pub all : HasFound asked (entries (lines bytes)) found

-- the first line that breaks a rule is refused by it, or memory ran out
pub record IsLineRefused (asked : List (List ℕ × Slot)) (bytes : List ℕ) (r : InputRefusal) : Type 0 where
  pub number : ℕ
  pub rule : Rule
  pub is : r ≡ refusal_by rule number
  pub first : IsFirstBroken asked (lines bytes) number rule

abbrev pub RefusesLines : List (List ℕ × Slot) → List ℕ → InputRefusal → Type 0
RefusesLines asked bytes r = (r ≡ refusal.Memory) ⊎ IsLineRefused asked bytes r

-- the first of names for which nothing is found is refused, or memory ran out
pub record IsNameRefused (names : List (List ℕ)) (found : List (List ℕ × List ℕ)) (r : InputRefusal) : Type 0 where
  pub name : List ℕ
  pub is : r ≡ refusal.Missing name
  pub first : find (λ x. is_none (beside found x)) names ≡ Some name

abbrev pub RefusesNames : List (List ℕ) → List (List ℕ × List ℕ) → InputRefusal → Type 0
RefusesNames names found r = (r ≡ refusal.Memory) ⊎ IsNameRefused names found r

-- what is found for a scalar is one pattern
abbrev pub AreSingle : List Scalar → List (List ℕ × List ℕ) → Type 0
AreSingle scalars found = All (λ (s : Scalar). IfSome (beside found s.name) (λ ps. length ps ≡ 1)) scalars

abbrev pub scalar_names : List Scalar → List (List ℕ)
scalar_names scalars = map (λ (s : Scalar). s.name) scalars

abbrev pub array_names : List Array → List (List ℕ)
array_names arrays = map (λ (a : Array). a.name) arrays

-- each scalar has the pattern that is found, and each array the patterns
abbrev pub ScalarsFound : List Scalar → List (List ℕ × List ℕ) → List ℕ → Type 0
ScalarsFound scalars found ps = AllZip (λ (s : Scalar) p. beside found s.name ≡ Some (p ∷ [])) scalars ps

abbrev pub ArraysFound : List Array → List (List ℕ × List ℕ) → List (List ℕ) → Type 0
ArraysFound arrays found pss = AllZip (λ (a : Array) ps. beside found a.name ≡ Some ps) arrays pss
