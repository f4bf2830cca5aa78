use Rattle.std.proofs.Common.{◌≡◌, ◌++◌, map, take}
use Rattle.net_core.specs.declared.channel.Follower.{Follower}
use Rattle.net_core.proofs.channel.append_values.Given as goal

abbrev pub invariant-loop-follower : goal.invariant-loop-follower
invariant-loop-follower l = l.list ≡ l.initial.list ++ map (λ (f : Follower). f.value) (take l.follower-index l.behind)
