use Rattle.net_worker.proofs.Asking.{asked_self}
use Rattle.net_worker.proofs.Turns.{made_none, made_more, still_has}
use Rattle.std.proofs.Common.{ap}
use Rattle.net_check.specs.declared.pins.Pins.{Pins}
use Rattle.net_worker.proofs.Holdings.{in_chan, unit_pins}
use Rattle.net_worker.proofs.worker.Worker.sends.Goals as goal

pub returns-then-is_none : goal.returns-then-is_none
returns-then-is_none c = made_none c.args.tables.now c.args.self.now c.args.self.now c.requires.own.made (asked_self c.args.self.now)

pub loop-out-init : goal.loop-out-init
loop-out-init c = made_none c.args.tables.now c.args.self.now c.args.self.now c.requires.own.made (asked_self c.args.self.now)

pub try_plan-more-requires-clause-own : goal.try_plan-more-requires-clause-own
try_plan-more-requires-clause-own c = still_has c.args.tables.now c.loop-out.made c.args.self.now c.loop-out.self c.args.unit c.requires.own c.loop-out.invariant

pub loop-out-preserved : goal.loop-out-preserved
loop-out-preserved c = made_more c.args.tables.now c.loop-out.made c.try_plan-more.result c.args.self.now c.loop-out.self c.try_plan-more.new.self c.loop-out.invariant c.try_plan-more.ensures

pub head-requires-clause-here : goal.head-requires-clause-here
head-requires-clause-here c =
    in_chan c.args.tables.now.net.now c.args.self.now.portion c.args.unit 0 c.args.pins.first (ap (λ (p : Pins). p.first) c.requires.pins)
    (unit_pins c.args.tables.now c.args.self.now c.args.unit c.requires.own)

pub plan_send_at-plan-requires-clause-here : goal.plan_send_at-plan-requires-clause-here
plan_send_at-plan-requires-clause-here c =
    unit_pins c.args.tables.now c.loop-out.self c.args.unit (still_has c.args.tables.now c.loop-out.made c.args.self.now c.loop-out.self c.args.unit c.requires.own c.loop-out.invariant)
