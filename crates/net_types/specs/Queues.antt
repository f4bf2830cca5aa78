-- The shape of one load-store queue: its ports, its groups of ports and its depth (a part of rule C7).
use Rattle.std.specs.Prelude.{◌≡◌, ℕ, ◌<◌, ◌≤◌, ◌==◌, List, length}
use Rattle.std.specs.List.{All, concat, count_by}
use Rattle.el_base.specs.Limits.{max_depth}
use Rattle.net_types.specs.declared.net.Port.{Port}

-- a group: not empty, no longer than the queue is deep, and of numbers of ports
pub record IsGroup (depth ports : ℕ) (group : List ℕ) : Type 0 where
  pub some : 0 < length group
  pub room : length group ≤ depth
  pub named : All (λ p. p < ports) group

-- there are ports and groups, each port stands in exactly one group, once, and the depth is at most the greatest
pub record IsQueueShape (depth : ℕ) (ports : List Port) (groups : List (List ℕ)) : Type 0 where
  pub some_port : 0 < length ports
  pub some_group : 0 < length groups
  pub each_group : All (IsGroup depth (length ports)) groups
  pub each_port : (p : ℕ) → p < length ports → count_by (λ n. n == p) (concat groups) ≡ 1
  pub depth_at_most : depth ≤ max_depth
