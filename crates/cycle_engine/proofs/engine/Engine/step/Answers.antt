use Rattle.std.proofs.Common.{◌≡◌, ◌∙◌, true, ap, sym}
use Rattle.net_types.specs.Nets.{kind_of}
use Rattle.net_check.specs.Ends.{is_lsq}
use Rattle.cycle_engine.proofs.TurnLemmas.{turn_follows, exit_broken}
use Rattle.cycle_engine.proofs.StepLemmas.{step_tried}
use Rattle.cycle_engine.proofs.engine.Engine.step.Goals as goal

pub returns-clause-tried : goal.returns-clause-tried
returns-clause-tried g c past start marks rank number t next =
    let queue : is_lsq (kind_of c.args.net.now c.args.firing.unit) ≡ true = ap is_lsq (sym c.requires.kind) ∙ c.requires.queue in
    step_tried c.args.net.now past c.args.bounds c.args.now start marks c.args.self.now c.attempt.new.self c.args.firing rank number c.in_ok-attempt.field-0 t next
    (c.in_ok-attempt.ensures.tried past start t.going (turn_follows c.args.net.now past c.args.bounds c.args.now start marks c.args.self.now c.args.firing rank number t next))
    c.in_ok-attempt.ensures.marks c.in_ok-attempt.ensures.again c.net.ensures.checked c.requires.ready queue

pub returns-in_err-attempt-clause-tried : goal.returns-in_err-attempt-clause-tried
returns-in_err-attempt-clause-tried g c past start marks rank number t next =
    exit_broken _ _ c.from_residual.result c.in_err-attempt.field-0.0 c.from_residual.ensures.1
    (c.in_err-attempt.ensures.tried past start t.going (turn_follows c.args.net.now past c.args.bounds c.args.now start marks c.args.self.now c.args.firing rank number t next))
