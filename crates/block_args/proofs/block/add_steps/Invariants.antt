use Rattle.std.proofs.Common.{◌≡◌, ◌++◌, drop, map}
use Rattle.ir.specs.Renaming.{renamed}
use Rattle.block_args.specs.Numbers.{number_in}
use Rattle.block_args.proofs.block.add_steps.Given as goal

abbrev pub invariant-loop-step : goal.invariant-loop-step
invariant-loop-step l = l.all ++ map (renamed (number_in l.numbers)) (drop l.step-index l.steps) ≡ l.initial.all ++ map (renamed (number_in l.numbers)) l.steps
