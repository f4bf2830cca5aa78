use Rattle.cycle_engine.proofs.ServeLemmas.{grown_on}
use Rattle.cycle_engine.proofs.TurnLemmas.{exit_broken}
use Rattle.cycle_engine.proofs.engine.Engine.run_queue.Goals as goal

pub returns-in_err-steps-2-clause-tried : goal.returns-in_err-steps-2-clause-tried
returns-in_err-steps-2-clause-tried c past start marks t =
    let t1 = c.in_ok-steps.ensures.tried past start marks t in
    exit_broken _ _ c.from_residual-in_err-steps-2.result c.in_err-steps-2.field-0.0 c.from_residual-in_err-steps-2.ensures.1 (c.in_err-steps-2.ensures.tried past start marks t1)

pub returns-in_err-steps-3-clause-tried : goal.returns-in_err-steps-3-clause-tried
returns-in_err-steps-3-clause-tried c past start marks t =
    let t1 = c.in_ok-steps.ensures.tried past start marks t in
    let t2 = c.in_ok-steps-2.ensures.tried past start marks t1 in
    exit_broken _ _ c.from_residual-in_err-steps-3.result c.in_err-steps-3.field-0.0 c.from_residual-in_err-steps-3.ensures.1 (c.in_err-steps-3.ensures.tried past start marks t2)

pub returns-in_err-execute-clause-tried : goal.returns-in_err-execute-clause-tried
returns-in_err-execute-clause-tried c past start marks t =
    let t1 = c.in_ok-steps.ensures.tried past start marks t in
    let t2 = c.in_ok-steps-2.ensures.tried past start marks t1 in
    let t3 = c.in_ok-steps-3.ensures.tried past start marks t2 in
    exit_broken _ _ c.from_residual-in_err-execute.result c.in_err-execute.field-0.0 c.from_residual-in_err-execute.ensures.1 (c.in_err-execute.ensures.tried past start marks t3)

pub returns-in_err-steps-4-clause-tried : goal.returns-in_err-steps-4-clause-tried
returns-in_err-steps-4-clause-tried c past start marks t =
    let t1 = c.in_ok-steps.ensures.tried past start marks t in
    let t2 = c.in_ok-steps-2.ensures.tried past start marks t1 in
    let t3 = c.in_ok-steps-3.ensures.tried past start marks t2 in
    let t4 = c.in_ok-execute.ensures.tried past start marks t3 in
    exit_broken _ _ c.from_residual-in_err-steps-4.result c.in_err-steps-4.field-0.0 c.from_residual-in_err-steps-4.ensures.1 (c.in_err-steps-4.ensures.tried past start marks t4)

pub returns-in_err-steps-5-clause-tried : goal.returns-in_err-steps-5-clause-tried
returns-in_err-steps-5-clause-tried c past start marks t =
    let t1 = c.in_ok-steps.ensures.tried past start marks t in
    let t2 = c.in_ok-steps-2.ensures.tried past start marks t1 in
    let t3 = c.in_ok-steps-3.ensures.tried past start marks t2 in
    let t4 = c.in_ok-execute.ensures.tried past start marks t3 in
    let t5 = c.in_ok-steps-4.ensures.tried past start marks t4 in
    exit_broken _ _ c.from_residual-in_err-steps-5.result c.in_err-steps-5.field-0.0 c.from_residual-in_err-steps-5.ensures.1 (c.in_err-steps-5.ensures.tried past start marks t5)

pub returns-in_err-steps-6-clause-tried : goal.returns-in_err-steps-6-clause-tried
returns-in_err-steps-6-clause-tried c past start marks t =
    let t1 = c.in_ok-steps.ensures.tried past start marks t in
    let t2 = c.in_ok-steps-2.ensures.tried past start marks t1 in
    let t3 = c.in_ok-steps-3.ensures.tried past start marks t2 in
    let t4 = c.in_ok-execute.ensures.tried past start marks t3 in
    let t5 = c.in_ok-steps-4.ensures.tried past start marks t4 in
    let t6 = c.in_ok-steps-5.ensures.tried past start marks t5 in
    exit_broken _ _ c.from_residual-in_err-steps-6.result c.in_err-steps-6.field-0.0 c.from_residual-in_err-steps-6.ensures.1 (c.in_err-steps-6.ensures.tried past start marks t6)

pub returns-clause-tried : goal.returns-clause-tried
returns-clause-tried c past start marks t =
    let t1 = c.in_ok-steps.ensures.tried past start marks t in
    let t2 = c.in_ok-steps-2.ensures.tried past start marks t1 in
    let t3 = c.in_ok-steps-3.ensures.tried past start marks t2 in
    let t4 = c.in_ok-execute.ensures.tried past start marks t3 in
    let t5 = c.in_ok-steps-4.ensures.tried past start marks t4 in
    let t6 = c.in_ok-steps-5.ensures.tried past start marks t5 in
    c.in_ok-steps-6.ensures.tried past start marks t6

pub returns-clause-grown : goal.returns-clause-grown
returns-clause-grown c =
    let g2 = grown_on c.args.self.now c.steps.new.self c.steps-2.new.self c.in_ok-steps.ensures.grown c.in_ok-steps-2.ensures.grown in
    let g3 = grown_on c.args.self.now c.steps-2.new.self c.steps-3.new.self g2 c.in_ok-steps-3.ensures.grown in
    let g4 = grown_on c.args.self.now c.steps-3.new.self c.execute.new.self g3 c.in_ok-execute.ensures.grown in
    let g5 = grown_on c.args.self.now c.execute.new.self c.steps-4.new.self g4 c.in_ok-steps-4.ensures.grown in
    let g6 = grown_on c.args.self.now c.steps-4.new.self c.steps-5.new.self g5 c.in_ok-steps-5.ensures.grown in
    grown_on c.args.self.now c.steps-5.new.self c.steps-6.new.self g6 c.in_ok-steps-6.ensures.grown
