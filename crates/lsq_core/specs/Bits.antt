-- Sets of numbers as words of 64 bits.
use Rattle.std.specs.Prelude.{◌≡◌, ℕ, ◌*◌, ◌/◌, ◌%◌, ◌<◌, ◌≤◌, ◌==◌, Bool, true, false, List, length, get_or}
use Rattle.std.specs.Int.{bit_at}

-- whether a number is in the set
abbrev pub has : List ℕ → ℕ → Bool
has words i = bit_at (get_or words (i / 64) 0) (i % 64) == 1

-- so many words of an empty set
pub record HasNoneIn (n : ℕ) (words : List ℕ) : Type 0 where
  pub size : length words ≡ n
  pub none : (i : ℕ) → has words i ≡ false

-- one number is put in or taken out, and no other
pub record IsSet (i : ℕ) (b : Bool) (old new : List ℕ) : Type 0 where
  pub size : length new ≡ length old
  pub here : has new i ≡ b
  pub other : (j : ℕ) → (j ≡ i → ⊥) → has new j ≡ has old j

-- the least number of the set from one place on, below another, or that other
pub record IsNext (words : List ℕ) (from to at : ℕ) : Type 0 where
  pub from_on : from ≤ at
  pub at_most : at ≤ to
  pub here : at < to → has words at ≡ true
  pub before : (j : ℕ) → from ≤ j → j < at → has words j ≡ false

-- it is noted which words have a number of the set: a word that is not noted has none. Without notes nothing is said
pub record Covers (words filled : List ℕ) : Type 0 where
  pub room : 0 < length filled → length words ≤ 64 * length filled
  pub empty : 0 < length filled → (i : ℕ) → has filled (i / 64) ≡ false → has words i ≡ false

-- the same of all words but one
pub record CoversOthers (at : ℕ) (words filled : List ℕ) : Type 0 where
  pub room : 0 < length filled → length words ≤ 64 * length filled
  pub empty : 0 < length filled → (i : ℕ) → (i / 64 ≡ at → ⊥) → has filled (i / 64) ≡ false → has words i ≡ false
