-- What reading says of numerals and numbers: private to the crate's parts.
use Rattle.std.specs.Prelude.{◌≡◌, ℕ, ℤ, ◌+◌, nat_lt, ◌&&◌, true, false, if◌then◌else◌, List, [], ◌∷◌, ◌++◌, length, map, take, Option, Some, MatchOption}
use Rattle.std.specs.List.{list_all}
use Rattle.std.specs.Str.Parse.{starts_with_minus}
use Rattle.el_base.specs.Digits.{signed, capped_value}
use Rattle.el_base.specs.Numbers.{pattern}
use Rattle.inputs_text.specs.declared.header.Slot.{Slot}
use Rattle.inputs_text.specs.declared.numerals.Numbers.{Numbers}
use Rattle.inputs_text.specs.Lines.{digits_of, is_numeral, numeral_number, numbers_in, words}
use Rattle.inputs_text.specs.Rules.{is_in_range}

-- the number of a numeral, or 2 ^ 100 with its sign where its magnitude is not below that
abbrev pub capped_number : List ℕ → ℤ
capped_number word = signed (starts_with_minus word) (capped_value (digits_of word))

abbrev pub ReadsNumeral : List ℕ → Option ℤ → Type 0
ReadsNumeral word o = MatchOption o (is_numeral word ≡ false) (λ z. (is_numeral word ≡ true) × (z ≡ capped_number word))

-- what is kept of numbers: how many they are, whether the type holds each, and then the patterns of the first of them, as many
-- as are asked for
pub record Measures (slot : Slot) (zs : List ℤ) (n : Numbers) : Type 0 where
  pub count : n.count ≡ length zs
  pub in_range : n.in_range ≡ list_all (is_in_range slot.ty) zs
  pub patterns : n.in_range ≡ true → n.patterns ≡ take slot.len (map (pattern slot.ty) zs)

-- of the words of a text that are all numerals
pub record MeasuresWords (slot : Slot) (ws : List (List ℕ)) (n : Numbers) : Type 0 where
  pub numerals : list_all is_numeral ws ≡ true
  pub measured : Measures slot (map numeral_number ws) n

-- of the numbers of a text
pub record MeasuresText (slot : Slot) (text : List ℕ) (n : Numbers) : Type 0 where
  pub numbers : List ℤ
  pub there : numbers_in (words text) ≡ Some numbers
  pub measured : Measures slot numbers n

-- a number more
pub record AddsNumber (slot : Slot) (z : ℤ) (old new : Numbers) : Type 0 where
  pub count : new.count ≡ old.count + 1
  pub in_range : new.in_range ≡ (old.in_range && is_in_range slot.ty z)
  pub patterns : new.patterns ≡ (if nat_lt old.count slot.len then old.patterns ++ pattern slot.ty z ∷ [] else old.patterns)
