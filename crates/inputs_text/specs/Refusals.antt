-- What each answer of the reader says of the bytes.
use Rattle.std.specs.Prelude.{◌≡◌, ◌≢◌, ◌⊎◌, ℕ, ◌+◌, List, ◌∷◌, ◌++◌, length, codes, find, is_none, Option, Some, None, Result, Ok, Err}
use Rattle.std.specs.Str.Lines.{lines}
use Rattle.el_base.specs.declared.ty.Array.{Array}
use Rattle.el_base.specs.declared.ty.Scalar.{Scalar}
use Rattle.net_types.specs.declared.firing.Inputs.{Inputs}
use Rattle.inputs_text.specs.declared.header.Slot.{Slot}
use Rattle.inputs_text.specs.declared.refusal.InputRefusal.{InputRefusal}
use Rattle.inputs_text.specs.declared.refusal.InputRefusal.TheVariants as refusal
use Rattle.inputs_text.specs.declared.refusal.Rule.{Rule}
use Rattle.inputs_text.specs.declared.refusal.Rule.TheVariants as rule
use Rattle.inputs_text.specs.Rules.{KeepRules, beside, broken_by, entries, slots}
use Rattle.inputs_text.specs.Texts.{InputText, header_names}

-- the number by which a refusal is printed
abbrev pub refusal_number : InputRefusal → Option ℕ
refusal_number (refusal.Line n) = Some 50
refusal_number (refusal.Unknown n) = Some 51
refusal_number (refusal.Twice n) = Some 52
refusal_number (refusal.Missing name) = Some 53
refusal_number (refusal.Count n) = Some 54
refusal_number (refusal.Range n) = Some 55
refusal_number refusal.Memory = None

-- and the word
abbrev pub refusal_word : InputRefusal → List ℕ
refusal_word (refusal.Line n) = codes "Line"
refusal_word (refusal.Unknown n) = codes "Unknown"
refusal_word (refusal.Twice n) = codes "Twice"
refusal_word (refusal.Missing name) = codes "Missing"
refusal_word (refusal.Count n) = codes "Count"
refusal_word (refusal.Range n) = codes "Range"
refusal_word refusal.Memory = codes "Memory"

-- its line, from 1
abbrev pub refusal_line : InputRefusal → Option ℕ
refusal_line (refusal.Line n) = Some n
refusal_line (refusal.Unknown n) = Some n
refusal_line (refusal.Twice n) = Some n
refusal_line (refusal.Missing name) = None
refusal_line (refusal.Count n) = Some n
refusal_line (refusal.Range n) = Some n
refusal_line refusal.Memory = None

-- and its name
abbrev pub refusal_name : InputRefusal → Option (List ℕ)
refusal_name (refusal.Line n) = None
refusal_name (refusal.Unknown n) = None
refusal_name (refusal.Twice n) = None
refusal_name (refusal.Missing name) = Some name
refusal_name (refusal.Count n) = None
refusal_name (refusal.Range n) = None
refusal_name refusal.Memory = None

-- the refusal of a line, by its number, that breaks a rule
abbrev pub refusal_by : Rule → ℕ → InputRefusal
refusal_by rule.Form n = refusal.Line n
refusal_by rule.Unknown n = refusal.Unknown n
refusal_by rule.Twice n = refusal.Twice n
refusal_by rule.Count n = refusal.Count n
refusal_by rule.Range n = refusal.Range n

-- the line of that number is the first that breaks a rule, and this is the first rule that it breaks
pub record IsFirstBroken (asked : List (List ℕ × Slot)) (ls : List (List ℕ)) (number : ℕ) (broken : Rule) : Type 0 where
  pub before : List (List ℕ)
  pub line : List ℕ
  pub after : List (List ℕ)
  pub whole : ls ≡ before ++ line ∷ after
  pub counted : number ≡ length before + 1
  pub kept : KeepRules asked before
  pub breaks : broken_by asked before line ≡ Some broken

-- each line keeps the rules, and that is the first name of the header that no line has
pub record IsMissing (scalars : List Scalar) (arrays : List Array) (ls : List (List ℕ)) (name : List ℕ) : Type 0 where
  pub kept : KeepRules (slots scalars arrays) ls
  pub first : find (λ x. is_none (beside (entries ls) x)) (header_names scalars arrays) ≡ Some name

module _ (scalars : List Scalar) (arrays : List Array) (bytes : List ℕ) where
  -- what an answer says of the bytes; want of memory says nothing
  abbrev pub Says : Result Inputs InputRefusal → Type 0
  Says (Ok inputs) = InputText scalars arrays inputs bytes
  Says (Err (refusal.Line n)) = IsFirstBroken (slots scalars arrays) (lines bytes) n rule.Form
  Says (Err (refusal.Unknown n)) = IsFirstBroken (slots scalars arrays) (lines bytes) n rule.Unknown
  Says (Err (refusal.Twice n)) = IsFirstBroken (slots scalars arrays) (lines bytes) n rule.Twice
  Says (Err (refusal.Missing name)) = IsMissing scalars arrays (lines bytes) name
  Says (Err (refusal.Count n)) = IsFirstBroken (slots scalars arrays) (lines bytes) n rule.Count
  Says (Err (refusal.Range n)) = IsFirstBroken (slots scalars arrays) (lines bytes) n rule.Range
  Says (Err refusal.Memory) = Unit {0}

  -- no other answer but want of memory says what holds of the bytes
  abbrev pub IsOnly : Result Inputs InputRefusal → Type 0
  IsOnly r = (other : Result Inputs InputRefusal) → other ≢ Err refusal.Memory → Says other → (r ≡ other) ⊎ (r ≡ Err refusal.Memory)
