use Rattle.block_fold.proofs.Loops.{IsTaking}
use Rattle.block_fold.proofs.making.made.Given as goal

abbrev pub invariant-loop-step : goal.invariant-loop-step
invariant-loop-step l = IsTaking l.args l.steps l.step-index l.maker
