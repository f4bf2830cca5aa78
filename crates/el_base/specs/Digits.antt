-- Decimal numbers in a text: a minus perhaps, and all the digits that follow it.
use Rattle.std.specs.Prelude.{◌≡◌, ℕ, ◌+◌, ◌^◌, min, ◌<◌, ◌==◌, Bool, true, not, ◌&&◌, ◌||◌, List, [], ◌++◌, length, drop, ℤ, pos, neg_ℤ, nat_lt, slice_index, slice_range, unsigned_abs, if◌then◌else◌, Option, Some, None}
use Rattle.std.specs.Char.{is_ascii_digit}
use Rattle.std.specs.Fmt.{signed_decimal}
use Rattle.std.specs.List.{take_while}
use Rattle.std.specs.Str.Parse.{digits_value, starts_with_minus}
use Rattle.el_base.specs.declared.digits.Number.{Number}

-- the digits with which a text begins
abbrev pub leading_digits : List ℕ → List ℕ
leading_digits text = take_while is_ascii_digit text

-- how many bytes a minus takes
abbrev pub minus_len : Bool → ℕ
minus_len negative = if negative then 1 else 0

-- the digits of the number with which a text begins: those after its minus, where it has one
abbrev pub digits_at_front : List ℕ → List ℕ
digits_at_front text = leading_digits (drop (minus_len (starts_with_minus text)) text)

-- a magnitude with its sign
abbrev pub signed : Bool → ℕ → ℤ
signed negative n = if negative then neg_ℤ (pos n) else pos n

-- what digits are worth, or 2 ^ 100 where they are worth more
abbrev pub capped_value : List ℕ → ℕ
capped_value ds = min (digits_value 10 ds) (2 ^ 100)

-- there is neither a zero before another digit nor a minus before a lone zero
abbrev pub is_canonical : Bool → List ℕ → Bool
is_canonical negative ds = not (slice_index ds 0 == 48 && (negative || nat_lt 1 (length ds)))

-- the number that a sign and its digits write, which begin at a place; no digits write none
abbrev pub number_of : Bool → List ℕ → ℕ → Option Number
number_of negative ds at = if length ds == 0 then None else Some (record {
  value = signed negative (capped_value ds);
  end = at + minus_len negative + length ds;
  canonical = is_canonical negative ds;
})

-- the number that stands at a place of a text
abbrev pub number_at : List ℕ → ℕ → Option Number
number_at text at = let rest = drop at text in number_of (starts_with_minus rest) (digits_at_front rest) at

-- a number of less than 2 ^ 64 in magnitude, written after any text and before bytes that begin with no digit, is read as itself
abbrev pub ReadsBack : ℤ → Type 0
ReadsBack z = (before after : List ℕ) → unsigned_abs z < 2 ^ 64 → leading_digits after ≡ []
    → number_at (before ++ signed_decimal z ++ after) (length before) ≡ Some (record {
      value = z;
      end = length before + length (signed_decimal z);
      canonical = true;
    })

-- a canonical number of less than 2 ^ 64 in magnitude that is read stands in the text as it is written
abbrev pub IsAsWritten : List ℕ → ℕ → Number → Type 0
IsAsWritten text at n = number_at text at ≡ Some n → n.canonical ≡ true → unsigned_abs n.value < 2 ^ 64
    → slice_range text at n.end ≡ signed_decimal n.value
