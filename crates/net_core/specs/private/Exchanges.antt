-- Private: only contracts of this crate cite it. Numbers that are added place by place.
use Rattle.std.specs.Prelude.{◌≡◌, ℕ, ◌+◌, ◌<◌, ◌≤◌, List, length, get_or}

-- to the first n numbers of a list those of another are added, and the others are as they were
pub record AreSummed (before more : List ℕ) (n : ℕ) (after : List ℕ) : Type 0 where
  pub long : length after ≡ length before
  pub done : (a : ℕ) → a < length before → a < n → get_or after a 0 ≡ get_or before a 0 + get_or more a 0
  pub left : (a : ℕ) → n ≤ a → get_or after a 0 ≡ get_or before a 0
