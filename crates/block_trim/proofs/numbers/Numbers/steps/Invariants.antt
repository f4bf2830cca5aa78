use Rattle.std.proofs.Common.{◌≡◌, ◌++◌, drop, map}
use Rattle.ir.specs.Renaming.{renamed}
use Rattle.block_trim.specs.Code.{number_by}
use Rattle.block_trim.proofs.numbers.Numbers.steps.Given as goal

abbrev pub invariant-loop-step : goal.invariant-loop-step
invariant-loop-step l = l.renamed ++ map (renamed (number_by l.self)) (drop l.step-index l.steps) ≡ map (renamed (number_by l.self)) l.steps
