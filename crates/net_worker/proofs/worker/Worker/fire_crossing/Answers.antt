use Rattle.std.proofs.Common.{◌≡◌, ◌<◌, ◌∙◌, Some, length, sym, ap, subst, arith, refl, rules}
use Rattle.net_types.specs.Nets.{kind_of, uses}
use Rattle.net_core.specs.Fire.{effect, after_effect, head_at, row, idle, at_array, setting}
use Rattle.net_core.specs.Held.{AllWithin}
use Rattle.net_core.specs.Plans.{places_of, effect_by}
use Rattle.net_core.specs.States.{state_of, own_at, array_at}
use Rattle.net_core.specs.Uses.{used, is_fork, places_used}
use Rattle.net_core.proofs.GoesLemmas.{heads}
use Rattle.net_core.proofs.MoveLemmas.{distinct_of}
use Rattle.net_core.proofs.PlanUses.{plans_use}
use Rattle.net_core.proofs.StateLemmas.{unit_is, plan_within}
use Rattle.net_core.specs.private.Moves.{taken_chans}
use Rattle.net_worker.specs.Firings.{AllHold}
use Rattle.net_worker.specs.Going.{base_of}
use Rattle.net_worker.specs.Offers.{greatest_in, IsOffered, IsNotOffered}
use Rattle.net_worker.proofs.Assembly.{made_up, room_held, few_counts}
use Rattle.net_worker.proofs.Mays.{used_there}
use Rattle.net_worker.proofs.Paying.{all_hold, all_payable, all_distinct}
use Rattle.net_worker.proofs.Holdings.{here_trans}
use Rattle.net_worker.proofs.Holdings.{made_pins, pins_on}
use Rattle.net_worker.proofs.worker.Worker.fire_crossing.Goals as goal

pub above-base-requires-clause-held : goal.above-base-requires-clause-held
above-base-requires-clause-held c =
    let t = c.args.tables.now in
    let a = c.args.self.now in
    let f = c.args.firing in
    let p = c.in_ok-plan.plan in
    let does = sym c.in_ok-plan.ensures.effect in
    let k : kind_of t.net.now f.unit ≡ c.index-as_slice-unit.result = unit_is t.net.now c.as_slice.result.now f.unit c.index-as_slice-unit.result (c.as_slice.ensures ∙ ap (λ n. n.units) c.net.ensures.net) (rw (c.as_slice.ensures ∙ ap (λ n. n.units) c.net.ensures.net) c.requires.within) c.index-as_slice-unit.is in
    let u : used t.net.now (state_of a.portion.state) f ≡ places_of c.used_places-used.result =
    plans_use t.net.now (state_of a.portion.state) f.unit f.act (effect_by (kind_of t.net.now f.unit) (own_at a.portion.state f.unit) (array_at t.net.now a.portion.state f.unit) p) p.takes does refl
    ∙ (ap (λ z. places_used (is_fork z) p.takes) k ∙ sym c.used_places-used.ensures) in
    subst (AllHold t.net.now f.unit a.takes.items) u
    (all_hold t a c.requires.made f.unit c.requires.mine (used t.net.now (state_of a.portion.state) f)
    (used_there (row (kind_of t.net.now f.unit) f.act (Rattle.std.proofs.Common.get_or (state_of a.portion.state).own f.unit idle) (at_array (state_of a.portion.state).arrays (uses (kind_of t.net.now f.unit))) (setting t.net.now (state_of a.portion.state))) (head_at t.net.now (state_of a.portion.state) f.unit)
    (effect_by (kind_of t.net.now f.unit) (own_at a.portion.state f.unit) (array_at t.net.now a.portion.state f.unit) p) does))

pub make-requires-clause-room : goal.make-requires-clause-room
make-requires-clause-room c = room_held c.args.tables.now c.args.self.now c.requires.made c.net.ensures.checked c.args.firing.unit c.requires.mine c.in_ok-plan.plan.put c.in_ok-stamp.ensures.some.room

pub make-requires-clause-counts : goal.make-requires-clause-counts
make-requires-clause-counts c = few_counts c.args.tables.now c.args.self.now c.requires.made

pub take_all-requires-clause-payable : goal.take_all-requires-clause-payable
take_all-requires-clause-payable c =
    let t = c.args.tables.now in
    let a = c.args.self.now in
    let f = c.args.firing in
    let p = c.in_ok-plan.plan in
    let o = c.in_ok-stamp.ensures.some in
    let later : a.clock < c.in_ok-stamp.stamp = omega (arith, o.stamp, c.above-base.ensures.greatest) in
    all_payable t a c.requires.made f.unit c.requires.mine c.in_ok-stamp.stamp c.above-base.new.takes.items later c.above-base.ensures.asked (places_of p.takes)
    (heads t.net.now (state_of a.portion.state) f (effect_by (kind_of t.net.now f.unit) (own_at a.portion.state f.unit) (array_at t.net.now a.portion.state f.unit) p) (sym c.in_ok-plan.ensures.effect))

pub take_all-requires-clause-distinct : goal.take_all-requires-clause-distinct
take_all-requires-clause-distinct c =
    let t = c.args.tables.now in
    let a = c.args.self.now in
    let f = c.args.firing in
    let p = c.in_ok-plan.plan in
    all_distinct (taken_chans t.net.now f.unit p.takes)
    (distinct_of t.net.now f.unit p.takes c.in_ok-plan.ensures.apart
    (subst (λ n. AllWithin n (taken_chans t.net.now f.unit p.takes)) c.requires.made.of.long (plan_within t.net.now a.portion.state f p (sym c.in_ok-plan.ensures.effect))))

pub returns-in_err-stamp-clause-held : goal.returns-in_err-stamp-clause-held
returns-in_err-stamp-clause-held c =
    let t = c.args.tables.now in
    let a = c.args.self.now in
    let f = c.args.firing in
    let p = c.in_ok-plan.plan in
    let k : kind_of t.net.now f.unit ≡ c.index-as_slice-unit.result = unit_is t.net.now c.as_slice.result.now f.unit c.index-as_slice-unit.result (c.as_slice.ensures ∙ ap (λ n. n.units) c.net.ensures.net) (rw (c.as_slice.ensures ∙ ap (λ n. n.units) c.net.ensures.net) c.requires.within) c.index-as_slice-unit.is in
    let e = effect_by (kind_of t.net.now f.unit) (own_at a.portion.state f.unit) (array_at t.net.now a.portion.state f.unit) p in
    let does : effect t.net.now (state_of a.portion.state) f ≡ Some e = sym c.in_ok-plan.ensures.effect in
    let u : used t.net.now (state_of a.portion.state) f ≡ places_of c.used_places-used.result =
    plans_use t.net.now (state_of a.portion.state) f.unit f.act e p.takes does refl ∙ (ap (λ z. places_used (is_fork z) p.takes) k ∙ sym c.used_places-used.ensures) in
    let base : c.above-base.result ≡ base_of t a f = c.above-base.ensures.greatest ∙ ap (λ ps. Rattle.std.proofs.Common.max a.clock (greatest_in t.net.now a.takes.items f.unit ps)) (sym u) in
    rw c.from_residual-in_err-stamp.ensures (record {
      asked = record { number = refl; share = refl; log = refl; clock = refl; portion = refl; outs = refl; ins = refl; closed = refl; resting = refl; waits = λ _ h. h; puts = c.in_err-stamp.ensures.asked; takes = c.above-base.ensures.asked };
      refused = λ x q.
          (let same : e ≡ x = (let z : Some e ≡ Some x = sym does ∙ q in cc) in
          subst (λ y. IsNotOffered t.net.now (state_of a.portion.state) f.unit y.put (base_of t a f) a.puts.items c.offer.new.puts.items) same
          (subst (λ y. IsNotOffered t.net.now (state_of a.portion.state) f.unit p.put y a.puts.items c.offer.new.puts.items) base c.in_err-stamp.ensures.none));
    })

pub returns-clause-fired : goal.returns-clause-fired
returns-clause-fired c =
    let t = c.args.tables.now in
    let a = c.args.self.now in
    let f = c.args.firing in
    let p = c.in_ok-plan.plan in
    let k : kind_of t.net.now f.unit ≡ c.index-as_slice-unit.result = unit_is t.net.now c.as_slice.result.now f.unit c.index-as_slice-unit.result (c.as_slice.ensures ∙ ap (λ n. n.units) c.net.ensures.net) (rw (c.as_slice.ensures ∙ ap (λ n. n.units) c.net.ensures.net) c.requires.within) c.index-as_slice-unit.is in
    let e = effect_by (kind_of t.net.now f.unit) (own_at a.portion.state f.unit) (array_at t.net.now a.portion.state f.unit) p in
    let does : effect t.net.now (state_of a.portion.state) f ≡ Some e = sym c.in_ok-plan.ensures.effect in
    let u : used t.net.now (state_of a.portion.state) f ≡ places_of c.used_places-used.result =
    plans_use t.net.now (state_of a.portion.state) f.unit f.act e p.takes does refl ∙ (ap (λ z. places_used (is_fork z) p.takes) k ∙ sym c.used_places-used.ensures) in
    let base : c.above-base.result ≡ base_of t a f = c.above-base.ensures.greatest ∙ ap (λ ps. Rattle.std.proofs.Common.max a.clock (greatest_in t.net.now a.takes.items f.unit ps)) (sym u) in
    made_up t a _ c.requires.made c.requires.whole f e c.in_ok-stamp.stamp c.above-base.new.takes.items (state_of c.make.new.self.state)
    (record {
      mine = c.requires.mine;
      does = does;
      asked = c.above-base.ensures.asked;
      offered = subst (λ y. IsOffered t.net.now (state_of a.portion.state) f.unit p.put y c.in_ok-stamp.stamp a.puts.items c.offer.new.puts.items) base c.in_ok-stamp.ensures.some;
      made = c.make.ensures.state ∙ ap (after_effect t.net.now (state_of a.portion.state) f.unit) does;
      rise = c.make.ensures.counts;
      over = c.hand_over.ensures.state;
      taken = c.take_all.ensures.taken;
      number = refl;
      share = refl;
      items = c.add.ensures.items;
      log_room = c.add.ensures.room;
      clock = refl;
      of = c.hand_over.ensures.of;
      here = here_trans a.portion c.make.new.self c.hand_over.new.portion c.make.ensures.same c.hand_over.ensures.same;
      outs = refl;
      ins = refl;
      closed = refl;
      resting = refl;
    })

pub make-requires-clause-here : goal.make-requires-clause-here
make-requires-clause-here c = made_pins c.args.tables.now c.args.self.now c.args.firing.unit c.requires.made c.requires.mine c.requires.within

pub hand_over-requires-clause-here : goal.hand_over-requires-clause-here
hand_over-requires-clause-here c =
    pins_on c.args.tables.now.net.now c.args.self.now.portion c.make.new.self c.args.firing.unit c.make.ensures.same
    (made_pins c.args.tables.now c.args.self.now c.args.firing.unit c.requires.made c.requires.mine c.requires.within)
