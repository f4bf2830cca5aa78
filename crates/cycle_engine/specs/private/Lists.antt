-- Private: only contracts of this crate cite it. Rows of lists, and which of them are not empty.
use Rattle.std.specs.Prelude.{◌≡◌, ℕ, ◌*◌, ◌^◌, ◌<◌, ◌≤◌, false, List, [], map, length, get_or}
use Rattle.lsq_core.specs.Bits.{has}
use Rattle.cycle_engine.specs.private.Stacks.{Stacked}

abbrev pub lists_of : List (Stacked ℕ) → List (List ℕ)
lists_of stacks = map (λ (v : Stacked ℕ). v.items) stacks

-- all lists are empty
abbrev pub HasNone : List (List ℕ) → Type 0
HasNone lists = (k : ℕ) → get_or lists k [] ≡ []

-- so many lists are looked at one by one
abbrev pub few_lists : ℕ
few_lists = 16

-- where there are more, the set has room for the place of each list, and has that of each list that is not empty
pub record AreShown (filled : List ℕ) (lists : List (List ℕ)) : Type 0 where
  pub few : length lists ≤ 2 ^ 32
  pub room : few_lists < length lists → length lists ≤ 64 * length filled
  pub empty : few_lists < length lists → (k : ℕ) → has filled k ≡ false → get_or lists k [] ≡ []

-- the place is from one on and up to another, and the lists before it are empty
pub record IsNextList (lists : List (List ℕ)) (from to at : ℕ) : Type 0 where
  pub from_on : from ≤ at
  pub at_most : at ≤ to
  pub before : (k : ℕ) → from ≤ k → k < at → get_or lists k [] ≡ []
