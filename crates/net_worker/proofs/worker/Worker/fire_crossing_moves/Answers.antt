use Rattle.std.proofs.Common.{◌≡◌, ◌<◌, ◌∙◌, Some, ap, sym, subst, arith, refl}
use Rattle.net_core.specs.Fire.{effect, after_effect}
use Rattle.net_core.specs.Plans.{effect_by}
use Rattle.net_core.specs.States.{state_of, own_at, array_at}
use Rattle.net_types.specs.Nets.{kind_of}
use Rattle.net_worker.specs.Going.{base_of}
use Rattle.net_worker.specs.Offers.{IsOffered}
use Rattle.net_worker.proofs.Asking.{asked_trans}
use Rattle.net_worker.proofs.Assembly.{made_up}
use Rattle.net_worker.proofs.Crossings.{held_used, base_used, payable_taken, distinct_taken, taken_by}
use Rattle.net_worker.proofs.Holdings.{here_trans}
use Rattle.net_worker.proofs.worker.Worker.fire_crossing_moves.Goals as goal

pub above_on-base-requires-clause-held : goal.above_on-base-requires-clause-held
above_on-base-requires-clause-held c = held_used c.args.tables.now c.args.self.now c.requires.own.made c.args.firing c.requires.own.mine c.args.plan c.args.moves c.requires.effect c.requires.moves c.args.used c.requires.used

pub returns-in_default-clause-kept : goal.returns-in_default-clause-kept
returns-in_default-clause-kept c = λ _.
    asked_trans c.args.self.now _ c.await_laid.new.self
    (record { number = refl; share = refl; log = refl; clock = refl; portion = refl; outs = refl; ins = refl; closed = refl; resting = refl; waits = λ _ h. h; puts = c.in_default.ensures.asked; takes = c.above_on-base.ensures.asked })
    c.await_laid.ensures

pub take_moves-requires-clause-payable : goal.take_moves-requires-clause-payable
take_moves-requires-clause-payable c =
    let a = c.args.self.now in
    let o = c.in-Some.ensures.some in
    let later : a.clock < c.in-Some.stamp = omega (arith, o.stamp, c.above_on-base.ensures.greatest) in
    payable_taken c.args.tables.now a c.requires.own.made c.args.firing c.requires.own.mine c.args.plan c.args.moves c.requires.effect c.requires.moves c.in-Some.stamp c.above_on-base.new.takes.items later c.above_on-base.ensures.asked

pub take_moves-requires-clause-distinct : goal.take_moves-requires-clause-distinct
take_moves-requires-clause-distinct c = distinct_taken c.args.tables.now c.args.self.now c.requires.own.made c.args.firing c.requires.own.mine c.args.plan c.args.moves c.requires.effect c.requires.moves c.requires.apart

pub returns-clause-fired : goal.returns-clause-fired
returns-clause-fired c = λ _.
    (let t = c.args.tables.now in
    let a = c.args.self.now in
    let f = c.args.firing in
    let p = c.args.plan in
    let e = effect_by (kind_of t.net.now f.unit) (own_at a.portion.state f.unit) (array_at t.net.now a.portion.state f.unit) p in
    let does : effect t.net.now (state_of a.portion.state) f ≡ Some e = sym c.requires.effect in
    let base : c.above_on-base.result ≡ base_of t a f = c.above_on-base.ensures.greatest ∙ base_used t a c.requires.own.made f c.requires.own.mine p c.args.moves c.requires.effect c.requires.moves c.args.used c.requires.used in
    made_up t a _ c.requires.own.made c.requires.own.whole f e c.in-Some.stamp c.above_on-base.new.takes.items (state_of c.make_moves.new.self.state)
    (record {
      mine = c.requires.own.mine;
      does = does;
      asked = c.above_on-base.ensures.asked;
      offered = subst (λ y. IsOffered t.net.now (state_of a.portion.state) f.unit p.put y c.in-Some.stamp a.puts.items c.offer_on.new.puts.items) base c.in-Some.ensures.some;
      made = c.make_moves.ensures.state ∙ ap (after_effect t.net.now (state_of a.portion.state) f.unit) does;
      rise = c.make_moves.ensures.counts;
      over = c.hand_over_on.ensures.state;
      taken = taken_by t a c.requires.own.made f c.requires.own.mine p c.args.moves c.requires.effect c.requires.moves c.in-Some.stamp c.above_on-base.new.takes.items c.take_moves.new.takes.items c.take_moves.ensures.taken;
      number = refl;
      share = refl;
      items = c.add.ensures.items;
      log_room = c.add.ensures.room;
      clock = refl;
      of = c.hand_over_on.ensures.of;
      here = here_trans a.portion c.make_moves.new.self c.hand_over_on.new.portion c.make_moves.ensures.same c.hand_over_on.ensures.same;
      outs = refl;
      ins = refl;
      closed = refl;
      resting = refl;
    }))
