use Rattle.std.proofs.Common.{◌+◌, ◌∙◌, inr, refl, arith}
use Rattle.net_types.specs.Order.{act_rank}
use Rattle.cycle_engine.specs.declared.marks.Marks.{Marks}
use Rattle.cycle_engine.specs.Cycles.{Dated}
use Rattle.cycle_engine.specs.private.Goings.{Past}
use Rattle.cycle_engine.specs.private.Places.{IsTurn}
use Rattle.net_core.specs.States.{state_of}
use Rattle.cycle_engine.proofs.TurnLemmas.{turn_on, exit_broken}
use Rattle.cycle_engine.proofs.StepLemmas.{next_numbered, turn_next}
use Rattle.cycle_engine.proofs.ServeLemmas.{grown_on}
use Rattle.cycle_engine.proofs.PlaceLemmas.{numbers_below}
use Rattle.cycle_engine.proofs.ControlLemmas.{keeps_control}
use Rattle.cycle_engine.proofs.engine.Engine.steps.Goals as goal

pub loop-number-init : goal.loop-number-init
loop-number-init g c = record {
  ready = c.requires.ready;
  grown = inr refl;
  again = refl;
  within = c.next_number-number.ensures.within;
  tried = λ past start marks t. turn_next c.args.net.now past c.args.bounds c.args.now start marks c.args.self.now c.args.unit c.args.act 0 c.next_number-number.result
      (c.next_number-number.ensures.next (keeps_control c.args.net.now past c.args.bounds c.args.now start c.args.self.now c.net.ensures.checked t.going)) t;
}

pub loop-number-preserved : goal.loop-number-preserved
loop-number-preserved g c = record {
  ready = c.in_ok-step.ensures.ready;
  grown = grown_on c.args.self.now c.loop-number.self c.step.new.self c.loop-number.invariant.grown c.in_ok-step.ensures.grown;
  again = c.in_ok-step.ensures.again ∙ c.loop-number.invariant.again;
  within = c.next_number-number-in-loop-number.ensures.within;
  tried = λ past start marks t. next past start marks
      (c.in_ok-step.ensures.tried past start marks (act_rank c.args.act) c.loop-number.number (c.loop-number.invariant.tried past start marks t)
      (next_numbered c.args.net.now (state_of c.loop-number.self.state) c.args.unit c.args.act c.loop-number.number c.count_acts-count.result c.numbered-next.result c.requires.executes c.numbered-next.ensures c.count_acts-count.ensures c.loop-number-test.true));
}
  where
    next : (past : Past) (start : Dated) (marks : Marks) → IsTurn c.args.net.now past c.args.bounds c.args.now start marks c.step.new.self c.args.unit (act_rank c.args.act) (c.loop-number.number + 1)
        → IsTurn c.args.net.now past c.args.bounds c.args.now start marks c.step.new.self c.args.unit (act_rank c.args.act) c.next_number-number-in-loop-number.result
    next past start marks t = turn_next c.args.net.now past c.args.bounds c.args.now start marks c.step.new.self c.args.unit c.args.act (c.loop-number.number + 1) c.next_number-number-in-loop-number.result
        (c.next_number-number-in-loop-number.ensures.next (keeps_control c.args.net.now past c.args.bounds c.args.now start c.step.new.self c.net.ensures.checked t.going)) t

pub returns-in_err-step-clause-tried : goal.returns-in_err-step-clause-tried
returns-in_err-step-clause-tried g c past start marks t =
    exit_broken _ _ c.from_residual.result c.in_err-step.field-0.0 c.from_residual.ensures.1
    (c.in_err-step.ensures.tried past start marks (act_rank c.args.act) c.loop-number.number (c.loop-number.invariant.tried past start marks t)
    (next_numbered c.args.net.now (state_of c.loop-number.self.state) c.args.unit c.args.act c.loop-number.number c.count_acts-count.result c.numbered-next.result c.requires.executes c.numbered-next.ensures c.count_acts-count.ensures c.loop-number-test.true))

pub returns-clause-tried : goal.returns-clause-tried
returns-clause-tried g c past start marks t =
    turn_on c.args.net.now past c.args.bounds c.args.now start marks c.loop-number.self c.args.unit (act_rank c.args.act) c.loop-number.number (c.loop-number.invariant.tried past start marks t)
    (λ a n r. (let k = numbers_below c.args.net.now (state_of c.loop-number.self.state) c.args.unit c.args.act a c.look_at_queue.ensures r n in let e = c.count_acts-count.ensures in omega (arith, c.loop-number-test.false)))
