use Rattle.ir.specs.Steps.{beginning}
use Rattle.ir.proofs.Performed.{IsPerforming}
use Rattle.ir.proofs.walk.perform.Given as goal

abbrev pub invariant-loop-step : goal.invariant-loop-step
invariant-loop-step l = IsPerforming l.steps l.step-index (beginning l.initial.values l.initial.arrays) l.values l.arrays l.strays
