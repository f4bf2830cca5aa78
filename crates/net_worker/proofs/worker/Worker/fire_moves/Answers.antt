use Rattle.std.proofs.Common.{◌≡◌, Some, sym, ap, subst, refl, ◌∙◌, arith, ◌^◌, ◌<◌, ◌+◌}
use Rattle.net_core.specs.Fire.{effect, after_effect}
use Rattle.net_core.specs.Plans.{places_of, effect_by}
use Rattle.net_types.specs.Nets.{kind_of}
use Rattle.net_core.specs.States.{state_of, own_at, array_at}
use Rattle.net_worker.specs.Offers.{IsOffered}
use Rattle.net_worker.proofs.Asking.{takes_asked_self}
use Rattle.net_worker.proofs.Assembly.{made_up, few_counts}
use Rattle.net_worker.proofs.Inside.{no_put, taken_inside, base_inside, handed_inside, inside_some}
use Rattle.net_worker.proofs.Turns.{room_by_moves}
use Rattle.net_worker.proofs.Holdings.{moves_laid, unit_pins}
use Rattle.net_worker.proofs.worker.Worker.fire_moves.Goals as goal

pub make_moves-requires-clause-room : goal.make_moves-requires-clause-room
make_moves-requires-clause-room c =
    room_by_moves c.args.tables.now.net.now (state_of c.args.self.now.portion.state) c.args.firing.unit c.args.plan c.args.moves c.requires.moves (c.has_room_to_lay.ensures c.if-not-has_room_to_lay.false)

pub make_moves-requires-clause-counts : goal.make_moves-requires-clause-counts
make_moves-requires-clause-counts c = few_counts c.args.tables.now c.args.self.now c.requires.own.made

pub returns-clause-fired : goal.returns-clause-fired
returns-clause-fired c = λ _.
    (let t = c.args.tables.now in
    let a = c.args.self.now in
    let f = c.args.firing in
    let p = c.args.plan in
    let e = effect_by (kind_of t.net.now f.unit) (own_at a.portion.state f.unit) (array_at t.net.now a.portion.state f.unit) p in
    let does : effect t.net.now (state_of a.portion.state) f ≡ Some e = sym c.requires.effect in
    let none = no_put t a c.requires.own.made f.unit c.requires.inner p.put in
    let room = room_by_moves t.net.now (state_of a.portion.state) f.unit p c.args.moves c.requires.moves (c.has_room_to_lay.ensures c.if-not-has_room_to_lay.false) in
    let fits : a.clock + 1 < 2 ^ 62 = omega arith in
    let offered = inside_some t.net.now (state_of a.portion.state) f.unit a.clock p.put (Some (a.clock + 1)) (omega arith) fits room a.puts.items none in
    made_up t a _ c.requires.own.made c.requires.own.whole f e (a.clock + 1) a.takes.items (state_of c.make_moves.new.self.state)
    (record {
      mine = c.requires.own.mine;
      does = does;
      asked = takes_asked_self a.takes.items;
      offered = subst (λ y. IsOffered t.net.now (state_of a.portion.state) f.unit p.put y (a.clock + 1) a.puts.items a.puts.items) (sym (base_inside t a c.requires.own.made f.unit c.requires.inner f refl)) offered;
      made = c.make_moves.ensures.state ∙ ap (after_effect t.net.now (state_of a.portion.state) f.unit) does;
      rise = c.make_moves.ensures.counts;
      over = handed_inside t.net.now f.unit p.put a.puts.items (state_of c.make_moves.new.self.state) none;
      taken = taken_inside t a c.requires.own.made f.unit c.requires.inner (a.clock + 1) (places_of p.takes);
      number = refl;
      share = refl;
      items = c.add.ensures.items;
      log_room = c.add.ensures.room;
      clock = refl;
      of = c.make_moves.ensures.of;
      here = c.make_moves.ensures.same;
      outs = refl;
      ins = refl;
      closed = refl;
      resting = refl;
    }))

pub has_room_to_lay-requires-clause-here : goal.has_room_to_lay-requires-clause-here
has_room_to_lay-requires-clause-here c =
    moves_laid c.args.tables.now.net.now c.args.self.now.portion c.args.firing.unit c.args.plan c.args.moves c.requires.moves
    (unit_pins c.args.tables.now c.args.self.now c.args.firing.unit c.requires.own)
