use Rattle.std.proofs.Common.{refl, ap}
use Rattle.std.proofs.lemmas.Bool.{false≢true}
use Rattle.net_core.specs.Uses.{is_fork}
use Rattle.cycle_engine.proofs.SendLemmas.{send_planned, send_may, send_asks}
use Rattle.cycle_engine.proofs.engine.Engine.may_send.Goals as goal

pub returns-then-has_room-clause-planned : goal.returns-then-has_room-clause-planned
returns-then-has_room-clause-planned c =
    send_planned c.args.net.now c.args.self.now c.args.unit c.args.out c.args.chan c.in_ok-plan.plan c.args.pins c.moves_to.result (ap is_fork c.requires.fork.shape) c.requires.pins c.requires.there c.in_ok-plan.ensures.effect c.moves_to.ensures
    c.in_ok-plan.ensures.apart c.in_ok-plan.ensures.admits (c.if-has_room.ensures.0 refl).0

pub returns-then-has_room-clause-may : goal.returns-then-has_room-clause-may
returns-then-has_room-clause-may c start b =
    send_may c.args.net.now c.args.self.now c.args.unit c.args.out c.args.chan c.in_ok-plan.plan c.args.pins c.moves_to.result (ap is_fork c.requires.fork.shape) c.requires.pins c.requires.there c.in_ok-plan.ensures.effect c.moves_to.ensures
    c.args.now start b c.requires.ripe (c.if-has_room.ensures.0 refl)

pub returns-else-has_room-clause-may : goal.returns-else-has_room-clause-may
returns-else-has_room-clause-may c start b m =
    false≢true (c.if-has_room.ensures.1
    (send_asks c.args.net.now c.args.self.now c.args.unit c.args.out c.args.chan c.in_ok-plan.plan c.args.pins c.moves_to.result (ap is_fork c.requires.fork.shape) c.requires.pins c.requires.there c.in_ok-plan.ensures.effect c.moves_to.ensures
    c.args.now start b m))
