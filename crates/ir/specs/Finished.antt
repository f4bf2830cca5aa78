-- A run of a graph that ends, with all that the next graph or the circuit is made to keep of it.
use Rattle.std.specs.Prelude.{◌≡◌, ℕ, ◌≤◌, List, ◌∷◌, length, Option}
use Rattle.ir.specs.Visits.{Visit, Passing, Finishes, over_visits, strays_of}

-- the visits of a run from its first: the last of them returns, there is no stray, there are at most so many more, and they cost at most so much
pub record Finished (f : Passing) (first : Visit) (r : Option ℕ) (arrays : List (List ℕ)) (cost : Visit → ℕ) (more most : ℕ) : Type 0 where
  pub rest : List Visit
  pub ends : Finishes f first rest r arrays
  pub clean : strays_of f (first ∷ rest) ≡ 0
  pub few : length rest ≤ more
  pub cheap : over_visits cost (first ∷ rest) ≤ most
