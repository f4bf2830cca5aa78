use Rattle.std.proofs.Common.{◌≡◌, Some, sym, ap, subst, refl, ◌∙◌}
use Rattle.net_core.specs.Fire.{effect, after_effect}
use Rattle.net_core.specs.Plans.{places_of, effect_by}
use Rattle.net_types.specs.Nets.{kind_of}
use Rattle.net_core.specs.States.{state_of, own_at, array_at}
use Rattle.net_worker.specs.Going.{base_of}
use Rattle.net_worker.specs.Offers.{IsOffered, IsNotOffered}
use Rattle.net_worker.proofs.Asking.{puts_asked_self, takes_asked_self}
use Rattle.net_worker.proofs.Assembly.{made_up}
use Rattle.net_worker.proofs.Inside.{no_put, taken_inside, base_inside, handed_inside}
use Rattle.net_worker.proofs.worker.Worker.fire_inner.Goals as goal

pub returns-in_err-stamp-clause-held : goal.returns-in_err-stamp-clause-held
returns-in_err-stamp-clause-held c =
    let t = c.args.tables.now in
    let a = c.args.self.now in
    let f = c.args.firing in
    let p = c.in_ok-plan.plan in
    let e = effect_by (kind_of t.net.now f.unit) (own_at a.portion.state f.unit) (array_at t.net.now a.portion.state f.unit) p in
    let does : effect t.net.now (state_of a.portion.state) f ≡ Some e = sym c.in_ok-plan.ensures.effect in
    rw c.from_residual-in_err-stamp.ensures (record {
      asked = record { number = refl; share = refl; log = refl; clock = refl; portion = refl; outs = refl; ins = refl; closed = refl; resting = refl; waits = λ _ h. h; puts = puts_asked_self a.puts.items; takes = takes_asked_self a.takes.items };
      refused = λ x q.
          (let same : e ≡ x = (let z : Some e ≡ Some x = sym does ∙ q in cc) in
          subst (λ y. IsNotOffered t.net.now (state_of a.portion.state) f.unit y.put (base_of t a f) a.puts.items a.puts.items) same
          (subst (λ y. IsNotOffered t.net.now (state_of a.portion.state) f.unit p.put y a.puts.items a.puts.items) (sym (base_inside t a c.requires.made f.unit c.requires.inner f refl))
          (c.in_err-stamp.ensures.none a.puts.items (no_put t a c.requires.made f.unit c.requires.inner p.put))));
    })

pub returns-clause-fired : goal.returns-clause-fired
returns-clause-fired c =
    let t = c.args.tables.now in
    let a = c.args.self.now in
    let f = c.args.firing in
    let p = c.in_ok-plan.plan in
    let e = effect_by (kind_of t.net.now f.unit) (own_at a.portion.state f.unit) (array_at t.net.now a.portion.state f.unit) p in
    let does : effect t.net.now (state_of a.portion.state) f ≡ Some e = sym c.in_ok-plan.ensures.effect in
    let none = no_put t a c.requires.made f.unit c.requires.inner p.put in
    made_up t a _ c.requires.made c.requires.whole f e c.in_ok-stamp.stamp a.takes.items (state_of c.make.new.self.state)
    (record {
      mine = c.requires.mine;
      does = does;
      asked = takes_asked_self a.takes.items;
      offered = subst (λ y. IsOffered t.net.now (state_of a.portion.state) f.unit p.put y c.in_ok-stamp.stamp a.puts.items a.puts.items) (sym (base_inside t a c.requires.made f.unit c.requires.inner f refl)) (c.in_ok-stamp.ensures.some a.puts.items none);
      made = c.make.ensures.state ∙ ap (after_effect t.net.now (state_of a.portion.state) f.unit) does;
      rise = c.make.ensures.counts;
      over = handed_inside t.net.now f.unit p.put a.puts.items (state_of c.make.new.self.state) none;
      taken = taken_inside t a c.requires.made f.unit c.requires.inner c.in_ok-stamp.stamp (places_of p.takes);
      number = refl;
      share = refl;
      items = c.add.ensures.items;
      log_room = c.add.ensures.room;
      clock = refl;
      of = c.make.ensures.of;
      here = c.make.ensures.same;
      outs = refl;
      ins = refl;
      closed = refl;
      resting = refl;
    })
