use Rattle.net_worker.proofs.Asking.{asked_self}
use Rattle.net_worker.proofs.Turns.{made_none, made_more, still_has}
use Rattle.net_worker.proofs.Holdings.{unit_pins}
use Rattle.net_worker.proofs.worker.Worker.visit_each.Goals as goal

pub acts-init : goal.acts-init
acts-init c = made_none c.args.tables.now c.args.self.now c.args.self.now c.requires.own.made (asked_self c.args.self.now)

pub returns-then-room-eq0 : goal.returns-then-room-eq0
returns-then-room-eq0 c = c.acts.invariant

pub returns-in_default : goal.returns-in_default
returns-in_default c = c.acts.invariant

pub try_one-made-requires-clause-whole : goal.try_one-made-requires-clause-whole
try_one-made-requires-clause-whole c = (still_has c.args.tables.now c.acts.fired c.args.self.now c.acts.self c.args.unit c.requires.own c.acts.invariant).whole

pub try_one-made-requires-clause-mine : goal.try_one-made-requires-clause-mine
try_one-made-requires-clause-mine c = (still_has c.args.tables.now c.acts.fired c.args.self.now c.acts.self c.args.unit c.requires.own c.acts.invariant).mine

pub acts-preserved : goal.acts-preserved
acts-preserved c = made_more c.args.tables.now c.acts.fired c.try_one-made.result c.args.self.now c.acts.self c.try_one-made.new.self c.acts.invariant c.try_one-made.ensures

pub number_from-next-requires-clause-here : goal.number_from-next-requires-clause-here
number_from-next-requires-clause-here c =
    (unit_pins c.args.tables.now c.acts.self c.args.unit (still_has c.args.tables.now c.acts.fired c.args.self.now c.acts.self c.args.unit c.requires.own c.acts.invariant)).unit

pub act_at-requires-clause-here : goal.act_at-requires-clause-here
act_at-requires-clause-here c =
    unit_pins c.args.tables.now c.acts.self c.args.unit (still_has c.args.tables.now c.acts.fired c.args.self.now c.acts.self c.args.unit c.requires.own c.acts.invariant)
