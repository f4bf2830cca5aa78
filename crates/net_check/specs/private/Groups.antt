-- Private: only contracts of this crate cite it. The groups of a queue, without the numbers in them.
use Rattle.std.specs.Prelude.{ℕ, ◌<◌, ◌≤◌, List, length}
use Rattle.std.specs.List.{All}
use Rattle.el_base.specs.Limits.{max_depth}

-- there are groups, each with a number and no more of them than the depth, which is at most the greatest
pub record AreGroups (depth : ℕ) (groups : List (List ℕ)) : Type 0 where
  pub some : 0 < length groups
  pub each : All (λ g. (0 < length g) × (length g ≤ depth)) groups
  pub depth_at_most : depth ≤ max_depth
