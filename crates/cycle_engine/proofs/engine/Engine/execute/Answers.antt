use Rattle.cycle_engine.proofs.TurnLemmas.{exit_broken}
use Rattle.cycle_engine.proofs.StepLemmas.{exec_on, exec_done}
use Rattle.cycle_engine.proofs.engine.Engine.execute.Goals as goal

pub returns-in_default-clause-tried : goal.returns-in_default-clause-tried
returns-in_default-clause-tried c past start marks t = exec_on c.args.net.now past c.args.bounds c.args.now start marks c.args.self.now c.args.unit c.in_default.ensures t

pub returns-in_err-step-clause-tried : goal.returns-in_err-step-clause-tried
returns-in_err-step-clause-tried c past start marks t =
    exit_broken _ _ c.from_residual.result c.in_err-step.field-0.0 c.from_residual.ensures.1 (c.in_err-step.ensures.tried past start marks 6 0 t c.in-Some.ensures)

pub returns-clause-tried : goal.returns-clause-tried
returns-clause-tried c past start marks t = exec_done c.args.net.now past c.args.bounds c.args.now start marks c.step.new.self c.args.unit (c.in_ok-step.ensures.tried past start marks 6 0 t c.in-Some.ensures)
