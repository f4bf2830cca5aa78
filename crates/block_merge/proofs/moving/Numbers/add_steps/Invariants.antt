use Rattle.std.proofs.Common.{◌≡◌, ◌++◌, drop, map}
use Rattle.ir.specs.Renaming.{renamed}
use Rattle.block_merge.specs.Moves.{new_number}
use Rattle.block_merge.proofs.moving.Numbers.add_steps.Given as goal

abbrev pub invariant-loop-step : goal.invariant-loop-step
invariant-loop-step l = l.all ++ map (renamed (new_number l.self)) (drop l.step-index l.steps) ≡ l.initial.all ++ map (renamed (new_number l.self)) l.steps
