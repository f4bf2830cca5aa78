use Rattle.std.proofs.Common.{arith}
use Rattle.block_fold.proofs.Loops.{taking_on, taking_few}
use Rattle.block_fold.proofs.making.made.Goals as goal

pub take-requires-clause-few : goal.take-requires-clause-few
take-requires-clause-few c = taking_few c.args.args c.args.steps.now c.loop-step.step-index c.loop-step.maker c.loop-step.invariant (omega arith) c.requires

pub loop-step-preserved : goal.loop-step-preserved
loop-step-preserved c =
    taking_on c.args.args c.args.steps.now c.loop-step.step-index c.loop-step.maker c.take.new.self c.as_slice.result.now _ c.renamed-step.result
    c.loop-step.invariant (omega arith) c.as_slice.ensures c.renamed-step.ensures c.in_ok-take.ensures

pub returns-clause-few : goal.returns-clause-few
returns-clause-few c = taking_few c.args.args c.args.steps.now c.loop-step.step-index c.loop-step.maker c.loop-step.invariant (omega arith) c.requires
