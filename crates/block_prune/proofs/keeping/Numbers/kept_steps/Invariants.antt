use Rattle.std.proofs.Common.{◌≡◌, ◌++◌, drop, map}
use Rattle.ir.specs.Renaming.{renamed}
use Rattle.block_prune.specs.Kept.{kept_steps}
use Rattle.block_prune.specs.Code.{number_by}
use Rattle.block_prune.proofs.keeping.Numbers.kept_steps.Given as goal

abbrev pub invariant-loop-place : goal.invariant-loop-place
invariant-loop-place l =
    l.kept ++ map (renamed (number_by l.self)) (kept_steps (drop l.place l.marks) (drop l.place l.steps)) ≡ map (renamed (number_by l.self)) (kept_steps l.marks l.steps)
