use Rattle.std.proofs.Common.{ℕ, ◌+◌, length, subst, arith}
use Rattle.cycle_engine.specs.private.Used.{IsStamped}
use Rattle.cycle_engine.proofs.MakeLemmas.{Makes1, made_more, made_ready, made_going}
use Rattle.net_core.specs.States.{state_of}
use Rattle.cycle_engine.specs.private.Fed.{IsFedBy}
use Rattle.cycle_engine.proofs.ControlLemmas.{control_made}
use Rattle.cycle_engine.proofs.FedLemmas.{fed_made}
use Rattle.cycle_engine.proofs.engine.Engine.fire.Goals as goal

pub returns : goal.returns
returns c =
    let old = c.args.self.now in
    let new = c.make.new.self in
    let moves = c.args.planned.moves in
    let made = c.in_ok-make.ensures in
    let one : Makes1 c.args.net.now c.args.bounds c.args.now old new c.args.firing moves = record {
      after = made.after;
      fired = made.fired;
      begun = made.begun;
      made = made.made;
      logged = made.log;
      notes = made.notes;
      freed = made.freed;
      control = made.control;
      pending = made.pending;
      base = made.stamped.base;
    } in
    let A : ℕ → Type 0 = λ x. IsFedBy c.args.net.now (state_of new.state) old.used.base.items c.args.firing x moves.laid old.fed new.fed in
    let P : ℕ → Type 0 = λ x. IsStamped x (old.made + length old.fired.items) old.used new.used in
    record {
      ready = made_ready c.args.net.now c.args.bounds c.args.now old new c.args.firing moves c.args.rouses c.requires.ready (omega arith) made.engine made.counts c.requires.place (subst P c.requires.at made.stamped) made.marks made.feeds one
          (fed_made c.args.net.now c.args.now old new c.args.firing c.args.planned.plan moves (old.made + length old.fired.items) c.requires.ready.engine.dated.chans made.engine.dated.chans c.requires.planned.effect c.requires.planned.moves c.requires.ready.places c.requires.place made.after (subst P c.requires.at made.stamped) (subst A c.requires.at made.fed) c.requires.ready.fed);
      more = made_more old new c.args.firing made.made made.fired;
      after = made.after;
      fired = made.fired;
      base = made.stamped.base;
      again = made.again;
      pending = made.pending;
      marks = made.marks;
      list = made.list;
      control = made.control;
      tried = λ past start going follow.
          made_going c.args.net.now past c.args.bounds c.args.now start old new c.args.firing c.args.planned.plan moves c.requires.ready c.requires.planned.effect c.requires.planned.moves going follow
          c.requires.unused (c.requires.may start going.began) one
          (control_made c.args.net.now past c.args.bounds c.args.now start old new c.args.firing c.args.planned.plan moves c.net.ensures.checked c.requires.planned.effect c.requires.planned.moves going (c.requires.may start going.began) one) c.requires.pending;
    }
