use Rattle.std.proofs.Common.{refl, ap}
use Rattle.net_check.specs.declared.pins.Pins.{Pins}
use Rattle.net_worker.proofs.Asking.{asked_self, asked_made, puts_asked_self, takes_asked_self}
use Rattle.net_worker.proofs.Firing.{fired_made}
use Rattle.net_worker.proofs.Turns.{made_none, made_looked}
use Rattle.net_worker.proofs.Holdings.{in_chan, moves_laid, moves_taken}
use Rattle.net_worker.proofs.Turns.{fired_pins}
use Rattle.net_worker.proofs.worker.Worker.try_crossing_plan.Goals as goal

pub returns-in_default : goal.returns-in_default
returns-in_default c = made_none c.args.tables.now c.args.self.now c.args.self.now c.requires.own.made (asked_self c.args.self.now)

pub returns-then-not-fire_crossing_moves : goal.returns-then-not-fire_crossing_moves
returns-then-not-fire_crossing_moves c =
    made_none c.args.tables.now c.args.self.now c.fire_crossing_moves.new.self c.requires.own.made (c.fire_crossing_moves.ensures.kept c.if-not-fire_crossing_moves.true)

pub look_taken-requires : goal.look_taken-requires
look_taken-requires c = record {
  made = asked_made c.args.tables.now c.fire_crossing_moves.new.self _
      (fired_made c.args.tables.now c.args.self.now c.fire_crossing_moves.new.self c.args.firing c.requires.own.made c.requires.own.whole (c.fire_crossing_moves.ensures.fired c.if-not-fire_crossing_moves.false))
      (record { number = refl; share = refl; log = refl; clock = refl; portion = refl; outs = refl; ins = refl; closed = refl; resting = refl; waits = λ _ h. h; puts = puts_asked_self c.fire_crossing_moves.new.self.puts.items; takes = takes_asked_self c.fire_crossing_moves.new.self.takes.items });
}

pub returns : goal.returns
returns c =
    made_looked c.args.tables.now c.args.self.now c.fire_crossing_moves.new.self _ c.look_taken.new.self c.args.firing c.requires.own (c.fire_crossing_moves.ensures.fired c.if-not-fire_crossing_moves.false)
    (record { number = refl; share = refl; log = refl; clock = refl; portion = refl; outs = refl; ins = refl; closed = refl; resting = refl; waits = λ _ h. h; puts = puts_asked_self c.fire_crossing_moves.new.self.puts.items; takes = takes_asked_self c.fire_crossing_moves.new.self.takes.items })
    c.look_taken.ensures.looked c.look_taken.ensures.made

pub wake_crossing-requires-clause-first : goal.wake_crossing-requires-clause-first
wake_crossing-requires-clause-first c =
    in_chan c.args.tables.now.net.now c.fire_crossing_moves.new.self.portion c.args.firing.unit 0 c.args.pins.first (ap (λ (p : Pins). p.first) c.requires.pins)
    (fired_pins c.args.tables.now c.args.self.now c.fire_crossing_moves.new.self c.args.firing c.requires.own (c.fire_crossing_moves.ensures.fired c.if-not-fire_crossing_moves.false))

pub wake_crossing-requires-clause-taken : goal.wake_crossing-requires-clause-taken
wake_crossing-requires-clause-taken c =
    moves_taken c.args.tables.now.net.now c.fire_crossing_moves.new.self.portion c.args.firing.unit c.in-Some.plan c.moves_at-moves.result c.moves_at-moves.ensures
    (fired_pins c.args.tables.now c.args.self.now c.fire_crossing_moves.new.self c.args.firing c.requires.own (c.fire_crossing_moves.ensures.fired c.if-not-fire_crossing_moves.false))

pub wake_crossing-requires-clause-laid : goal.wake_crossing-requires-clause-laid
wake_crossing-requires-clause-laid c =
    moves_laid c.args.tables.now.net.now c.fire_crossing_moves.new.self.portion c.args.firing.unit c.in-Some.plan c.moves_at-moves.result c.moves_at-moves.ensures
    (fired_pins c.args.tables.now c.args.self.now c.fire_crossing_moves.new.self c.args.firing c.requires.own (c.fire_crossing_moves.ensures.fired c.if-not-fire_crossing_moves.false))
