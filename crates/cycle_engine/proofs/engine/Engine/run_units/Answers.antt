use Rattle.std.proofs.Common.{◌∙◌, ap, length}
use Rattle.cycle_engine.proofs.MarkLemmas.{emptied_listed}
use Rattle.cycle_engine.proofs.TurnLemmas.{ready_marks, taken_open, begun_settled, exit_broken}
use Rattle.cycle_engine.proofs.engine.Engine.run_units.Goals as goal

pub returns-clause-settled : goal.returns-clause-settled
returns-clause-settled c past start t =
    begun_settled c.args.net.now past c.args.bounds c.args.now start c.units.self c.take.new.self c.in_default.ensures (c.units.invariant.begun past start t)

pub returns-clause-ready : goal.returns-clause-ready
returns-clause-ready c =
    let e = c.in_default.ensures in
    ready_marks c.args.net.now c.args.bounds c.units.self c.take.new.self c.units.invariant.ready (ap (λ (v : _). length v.items) e.same ∙ c.units.invariant.ready.marked)
    (emptied_listed c.args.net.now c.units.self.marks c.take.new.self e c.units.invariant.ready.listed)

pub run_unit-requires-clause-ready : goal.run_unit-requires-clause-ready
run_unit-requires-clause-ready c =
    let k = c.in-Some.ensures in
    ready_marks c.args.net.now c.args.bounds c.units.self c.take.new.self c.units.invariant.ready (k.long ∙ c.units.invariant.ready.marked) (k.listed c.args.net.now c.units.invariant.ready.listed)

pub units-preserved : goal.units-preserved
units-preserved c = record {
  ready = c.in_ok-run_unit.ensures.ready;
  begun = λ past start t. c.in_ok-run_unit.ensures.tried past start (taken_open c.args.net.now past c.args.bounds c.args.now start c.units.self c.take.new.self c.in-Some.unit c.in-Some.ensures (c.units.invariant.begun past start t));
}

pub returns-in_err-run_unit-clause-settled : goal.returns-in_err-run_unit-clause-settled
returns-in_err-run_unit-clause-settled c past start t =
    exit_broken _ _ c.from_residual.result c.in_err-run_unit.field-0.0 c.from_residual.ensures.1
    (c.in_err-run_unit.ensures.tried past start (taken_open c.args.net.now past c.args.bounds c.args.now start c.units.self c.take.new.self c.in-Some.unit c.in-Some.ensures (c.units.invariant.begun past start t)))
