-- The lines of an inputs text: which are skipped, and the name and the numbers that another gives.
use Rattle.std.specs.Prelude.{ℕ, ℤ, ◌==◌, nat_lt, ◌&&◌, ◌||◌, Bool, List, [], ◌∷◌, length, drop, map, filter, slice_index, if◌then◌else◌, Option, Some, None}
use Rattle.std.specs.Char.{is_ascii_digit}
use Rattle.std.specs.List.{slice_split, before_first, after_first, list_all}
use Rattle.std.specs.Str.Parse.{digits_value, starts_with_minus}
use Rattle.el_base.specs.Digits.{minus_len, signed}
use Rattle.el_base.specs.Words.{is_identifier}

-- a space (32) or a tab (9)
abbrev pub is_blank : ℕ → Bool
is_blank b = b == 32 || b == 9

-- a line that is skipped: of blanks alone, or one whose first byte is # (35)
abbrev pub is_skipped : List ℕ → Bool
is_skipped line = list_all is_blank line || slice_index line 0 == 35

-- the words of a text: its parts between blanks, without the empty ones
unfoldable pub words : List ℕ → List (List ℕ)
words text = filter (λ w. nat_lt 0 (length w)) (slice_split is_blank text)

-- what follows the minus of a word, where it has one
abbrev pub digits_of : List ℕ → List ℕ
digits_of word = drop (minus_len (starts_with_minus word)) word

-- a numeral: a minus perhaps, and then digits, at least one
unfoldable pub is_numeral : List ℕ → Bool
is_numeral word = nat_lt 0 (length (digits_of word)) && list_all is_ascii_digit (digits_of word)

-- its number
unfoldable pub numeral_number : List ℕ → ℤ
numeral_number word = signed (starts_with_minus word) (digits_value 10 (digits_of word))

-- a name, where it is the one word
abbrev pub name_in : List (List ℕ) → Option (List ℕ)
name_in [] = None
name_in (w ∷ []) = if is_identifier w then Some w else None
name_in (w ∷ second ∷ more) = None

-- the numbers of words that are all numerals, at least one
abbrev pub numbers_in : List (List ℕ) → Option (List ℤ)
numbers_in [] = None
numbers_in (w ∷ ws) = if list_all is_numeral (w ∷ ws) then Some (map numeral_number (w ∷ ws)) else None

abbrev pub entry_of : Option (List ℕ) → Option (List ℤ) → Option (List ℕ × List ℤ)
entry_of None numbers = None
entry_of (Some name) None = None
entry_of (Some name) (Some numbers) = Some (name, numbers)

-- the name and the numbers of a line that has the form: those before and after its first = (61)
unfoldable pub line_entry : List ℕ → Option (List ℕ × List ℤ)
line_entry line = entry_of (name_in (words (before_first (λ b. b == 61) line))) (numbers_in (words (after_first (λ b. b == 61) line)))
